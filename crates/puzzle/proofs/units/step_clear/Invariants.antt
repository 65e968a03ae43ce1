-- `puzzle::units::step_clear` meets its contract. The invariant: what
-- was found so far, and what is left of the walk, make the whole walk.
-- Assumes nothing.
use Prim.Native.Nat.{ℕ, ◌+◌, ◌-◌}
use mathlib.Core.Path.{◌≡◌}
use mathlib.Core.Bool.{Bool, not}
use mathlib.Core.List.{List}
use lib.Dec.{eqb}
use lib.ListN.{length, get_or}
use Rattle.sudoku.specs.Tests.{both, either, every}
use Rattle.puzzle.specs.Code.Units.{step_clear}
use Rattle.puzzle.proofs.units.step_clear.Given as goal

-- the test at one index
abbrev pub test : List ℕ → ℕ → ℕ → Bool
test grid step i = either (eqb (get_or grid i 0) 0) (not (eqb (get_or grid i 0) (get_or grid (i + step) 0)))

abbrev pub invariant-loop-digit : goal.invariant-loop-digit
invariant-loop-digit l =
    step_clear l.digits l.step ≡ both l.clear (every (test l.digits l.step) (81 - l.step - length l.yielded) (length l.yielded))
