-- The givens of a board are those it was opened with: each cell
-- of a given is marked, holds its digit, and the cells rise.
-- Assumes nothing.
use Prim.Native.Nat.{ℕ, zero, suc, ◌+◌, ◌≤◌, ◌<◌}
use mathlib.Core.Path.{◌≡◌, refl, sym, ap, ◌∙◌}
use mathlib.Core.Bool.{Bool, true, false, not}
use mathlib.Core.List.{List, [], ◌∷◌}
use native.Mathlib.Omega.{arith}
use borrow.Author.Tests.{eqb-true}
use lib.Dec.{eqb}
use lib.ListN.{length}
use Rattle.sudoku.specs.Tests.{bit, count}
use Rattle.sudoku.specs.Grid.{is_cell, row_of, column_of, at}
use Rattle.sudoku.proofs.Walks.{by_test, keep_true, keep_false, count_same}
use Rattle.sudoku.proofs.Grid.{cell_to, is_cell_lem, cell_of_is_cell, row_of_cell, column_of_cell}
use Rattle.sudoku.proofs.Each.{Each}
use Rattle.puzzle.specs.declared.Given.{Given}
use Rattle.puzzle.specs.Givens.{is_given, given, givens_by, digits_of, given_cells}
use Rattle.puzzle.proofs.Givens.{cell_in, OnGrid, Rising, marked, digit_for, given_at_lem, digit_at_lem, rising_unmarked, rising_on, rising_rest, marked_here, marked_beyond, digit_here, digit_beyond, given_count}
use Rattle.board.specs.declared.Board.{Board}
use Rattle.board.specs.Board.{state_of}
use Rattle.record.specs.Write.{givens_of}
use Rattle.record.specs.Reopen.{to_play}

-- what a walk of the cells beyond c finds on a board: marks and digits as the givens have them
record Found (b : Board) (c : ℕ) (gs : List Given) : Type 0 where
  marks : (cell : ℕ) → c < cell → cell ≤ 81 → is_given b.given cell ≡ marked gs cell
  digits : (cell : ℕ) → c < cell → cell ≤ 81 → marked gs cell ≡ true → at b.digits cell ≡ digit_for gs cell

-- one cell on: the same givens, or those after the first
found_on : (b : Board) (c : ℕ) (gs : List Given) → Found b c gs → Found b (suc c) gs
found_on b c gs f =
    record {
      marks = λ cell l u. f.marks cell (omega arith) u;
      digits = λ cell l u t. f.digits cell (omega arith) u t;
    }

found_rest : (b : Board) (c : ℕ) (g : Given) (gs : List Given) → cell_in g ≡ suc c → Found b c (g ∷ gs) → Found b (suc c) gs
found_rest b c g gs e f =
    record {
      marks = λ cell l u. f.marks cell (omega arith) u ∙ marked_beyond g gs cell (omega arith);
      digits =
          λ cell l u t.
          f.digits cell (omega arith) u (marked_beyond g gs cell (omega arith) ∙ t) ∙ digit_beyond g gs cell (omega arith);
    }

walk : (b : Board) (n c : ℕ) (gs : List Given) → suc c + n ≡ 82 → Each OnGrid gs → Rising c gs → Found b c gs → givens_by (is_given b.given) (at b.digits) n (suc c) ≡ gs
unfolding givens_by Each Rising
walk b zero c [] e ps r f = refl
walk b zero c (g ∷ gs) e ps r f = absurd (omega (arith, r.0, cell_to (cell_in g) (cell_of_is_cell _ _ ps.0)))
walk b (suc n) c [] e ps r f =
    keep_false _ _ _ (f.marks (suc c) (omega arith) (omega arith) ∙ rising_unmarked (suc c) [] (suc c) tt (omega arith))
    ∙ walk b n (suc c) [] (omega arith) tt tt (found_on b c [] f)
walk b (suc n) c (g ∷ gs) e ps r f =
    by_test (eqb (cell_in g) (suc c))
    (λ t.
    keep_true _ _ _ (f.marks (suc c) (omega arith) (omega arith) ∙ marked_here g gs (suc c) t)
    ∙ (λ i. here (eqb-true (cell_in g) (suc c) t) t i ∷ walk b n (suc c) gs (omega arith) ps.1 (rising_rest c g gs r t) (found_rest b c g gs (eqb-true (cell_in g) (suc c) t) f) i))
    (λ t.
    keep_false _ _ _
    (f.marks (suc c) (omega arith) (omega arith) ∙ rising_unmarked (suc c) (g ∷ gs) (suc c) (rising_on c g gs r t) (omega arith))
    ∙ walk b n (suc c) (g ∷ gs) (omega arith) ps (rising_on c g gs r t) (found_on b c (g ∷ gs) f))
  where
    here : cell_in g ≡ suc c → eqb (cell_in g) (suc c) ≡ true → given (row_of (suc c)) (column_of (suc c)) (at b.digits (suc c)) ≡ g
    here w t =
        λ i.
        record {
          row = (ap row_of (sym w) ∙ row_of_cell g.row g.column ps.0) i;
          column = (ap column_of (sym w) ∙ column_of_cell g.row g.column ps.0) i;
          digit = (f.digits (suc c) (omega arith) (omega arith) (marked_here g gs (suc c) t) ∙ digit_here g gs (suc c) t) i;
        }

-- those that pass and those that fail are all
one_of : (t : Bool) → bit (not t) + bit t ≡ 1
unfolding bit
one_of true = refl
one_of false = refl

pub count_not : (f : ℕ → Bool) (n i : ℕ) → count (λ k. not (f k)) n i + count f n i ≡ n
unfolding count
count_not f zero i = refl
count_not f (suc n) i = omega (arith, count_not f n (suc i), one_of (f i))

module _ (gs : List Given) (ps : Each OnGrid gs) (r : Rising 0 gs) (b : Board) (same : b.given ≡ given_cells gs) where
  -- a cell of the board is a given exactly where a given stands
  pub is_given_lem : (cell : ℕ) → is_cell cell ≡ true → is_given b.given cell ≡ marked gs cell
  unfolding state_of
  is_given_lem cell q = ap (λ (l : List ℕ). is_given l cell) same ∙ given_at_lem gs cell ps q

  -- the board has the givens that it was opened with
  pub givens_kept : ((cell : ℕ) → is_cell cell ≡ true → marked gs cell ≡ true → at b.digits cell ≡ at (digits_of gs) cell) → givens_of b ≡ gs
  unfolding givens_of
  givens_kept h = walk b 81 0 gs refl ps r found
    where
      found : Found b 0 gs
      found =
          record {
            marks = λ cell l u. is_given_lem cell (is_cell_lem cell l u);
            digits = λ cell l u t. h cell (is_cell_lem cell l u) t ∙ digit_at_lem gs ps r cell (is_cell_lem cell l u);
          }

  -- how many cells were to play
  pub to_play_lem : to_play b + length gs ≡ 81
  unfolding to_play state_of
  to_play_lem =
      omega (
        arith,
        count_not (λ cell. is_given b.given cell) 81 1,
        count_same (λ cell. is_given b.given cell) (is_given (given_cells gs)) 81 1
            (λ k l u. ap (λ (l : List ℕ). is_given l k) same),
        given_count gs ps r,
      )
