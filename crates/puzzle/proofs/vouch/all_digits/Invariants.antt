-- `puzzle::vouch::all_digits` meets its contract. The invariant: what
-- was found so far, and what is left of the walk, make the whole walk.
-- Assumes nothing.
use Prim.Native.Nat.{ℕ, ◌+◌, ◌-◌}
use mathlib.Core.Path.{◌≡◌}
use mathlib.Core.Bool.{Bool}
use mathlib.Core.List.{List}
use Rattle.sudoku.specs.Tests.{both, every}
use Rattle.sudoku.specs.Grid.{in_range, at}
use Rattle.puzzle.specs.Code.Rows.{flat}
use Rattle.puzzle.proofs.vouch.all_digits.Given as goal

-- the test of one cell
abbrev pub test : List (List ℕ) → ℕ → Bool
test rows cell = in_range (at (flat rows) cell)

abbrev pub invariant-loop-at : goal.invariant-loop-at
invariant-loop-at l = every (test l.rows) 81 1 ≡ both l.ok (every (test l.rows) (82 - (l.at + 1)) (l.at + 1))
