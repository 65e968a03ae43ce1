-- Demand 2's theorem, the statement: a board played from its opening is
-- solved exactly when every row, column and box holds each of 1 to 9 once.
-- The proof stands elsewhere. Assumes nothing.
use Rattle.std.specs.Prelude.{ℕ, ◌≡◌, ◌↔◌, true, List}
use Rattle.puzzle.specs.declared.Given.{Given}
use Rattle.sudoku.specs.Tests.{count}
use Rattle.sudoku.specs.Grid.{in_range, is_cell, are_peers}
use Rattle.puzzle.specs.EachOnce.{Kind, unit_of, in_unit, EachOnce}
use Rattle.board.specs.Open.{opened_fresh}
use Rattle.calls.specs.declared.Call.{Call}
use Rattle.calls.specs.Session.{Session, after, started}
use Rattle.demands.specs.Opens.{Opens}
use Rattle.demands.specs.Demand3.{Reached}

-- two cells of one unit
pub record Share (cell other : ℕ) : Type 0 where
  pub kind : Kind
  pub unit : unit_of kind cell ≡ unit_of kind other
  pub two : cell ≡ other → ⊥

pub record SolvedTheorem : Type 0 where
  pub exactly :
      (givens : List Given) (solution : List ℕ) (calls : List Call)
      → Opens givens solution
      → ((after (started (opened_fresh givens solution)) calls).board.solved ≡ 1) ↔ EachOnce (after (started (opened_fresh givens solution)) calls).board.digits
  -- the same of every board that calls reach, from an opening or from a reopening; and its status is 1 or 0
  pub reached : (s : Session) → Reached s → (s.board.solved ≡ 1) ↔ EachOnce s.board.digits
  pub unsolved : (s : Session) → Reached s → (s.board.solved ≡ 0) ↔ (EachOnce s.board.digits → ⊥)
  -- the units are the rows, columns and boxes: each has nine cells, and peers are what shares one
  pub nine : (kind : Kind) (number : ℕ) → in_range number ≡ true → count (in_unit kind number) 81 1 ≡ 9
  pub peers : (cell other : ℕ) → is_cell cell ≡ true → is_cell other ≡ true → (are_peers cell other ≡ true) ↔ Share cell other
