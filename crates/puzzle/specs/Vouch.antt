-- Opening's tests of document 01 (proof.rs, `WellPosed::vouch`): 22; 23 and 24 in one walk; 25; 26 and 27 in one walk.
-- Assumes nothing.
use Rattle.std.specs.Prelude.{ℕ, suc, not, List, [], ◌∷◌, leb, eqb, length}
use Rattle.sudoku.specs.Tests.{pick}
use Rattle.sudoku.specs.Grid.{on_grid, cell_of, at, peers_of}
use Rattle.puzzle.specs.declared.Refusal.{Refusal}
use Rattle.puzzle.specs.declared.Given.{Given}
use Rattle.puzzle.specs.Refusals.{refusal, accepted, refused_if, or_else, first_refused}
use Rattle.puzzle.specs.Givens.{ascending}

-- 22 NothingLeftToPlay: 81 givens or more
unfoldable pub nothing_left : List Given → Refusal
nothing_left givens = refused_if (leb 81 (length givens)) (refusal 22 0 0)

-- 23 SolutionNotFull, 24 SolutionDigitOutOfRange, at one cell
unfoldable pub solution_digit : List ℕ → ℕ → Refusal
solution_digit solution cell =
    or_else (refused_if (eqb (at solution cell) 0) (refusal 23 cell 0)) (refused_if (not (leb (at solution cell) 9)) (refusal 24 cell 0))

-- the first of the cells that holds d; 0 where none does
unfoldable pub first_holding : List ℕ → ℕ → List ℕ → ℕ
first_holding digits d [] = 0
first_holding digits d (cell ∷ cells) = pick (eqb (at digits cell) d) cell (first_holding digits d cells)

-- 25 SolutionConflict: place the first cell, inner the first peer equal to it
unfoldable pub solution_conflict : List ℕ → ℕ → Refusal
solution_conflict solution cell =
    let peer = first_holding solution (at solution cell) (peers_of cell) in
    refused_if (not (eqb peer 0)) (refusal 25 cell peer)

-- 26 GivenOffGrid, 27 GivenMismatch: place its index from 1
unfoldable pub given_matches : List ℕ → Given → ℕ → Refusal
given_matches solution g index =
    or_else (refused_if (not (on_grid g.row g.column)) (refusal 26 index 0))
    (refused_if (not (eqb (at solution (cell_of g.row g.column)) g.digit)) (refusal 27 index 0))

unfoldable pub givens_match : List ℕ → List Given → ℕ → Refusal
givens_match solution [] index = accepted
givens_match solution (g ∷ gs) index = or_else (given_matches solution g index) (givens_match solution gs (suc index))

-- 22 to 27
unfoldable pub vouch : List Given → List ℕ → Refusal
vouch givens solution =
    or_else (nothing_left givens)
    (or_else (first_refused (solution_digit solution) 81 1)
    (or_else (first_refused (solution_conflict solution) 81 1) (givens_match solution givens 1)))

-- 19 Givens not strictly ascending; then 22 to 27
unfoldable pub well_posed : List Given → List ℕ → Refusal
well_posed givens solution = or_else (refused_if (not (ascending givens)) (refusal 19 0 0)) (vouch givens solution)
