-- `puzzle::units::columns_clear` meets its contract: what is left to test from `k` on decides.
-- Assumes nothing.
use Prim.Native.Nat.{ℕ, ◌-◌, ◌*◌}
use mathlib.Core.Path.{◌≡◌}
use mathlib.Core.Bool.{Bool}
use mathlib.Core.List.{List}
use Rattle.sudoku.specs.Tests.{every}
use Rattle.puzzle.specs.Code.Units.{step_clear, columns_clear}
use Rattle.puzzle.proofs.units.columns_clear.Given as goal

-- the test at one distance
abbrev pub test : List ℕ → ℕ → Bool
test grid k = step_clear grid (9 * k)

abbrev pub invariant-loop-k : goal.invariant-loop-k
invariant-loop-k l = columns_clear l.digits ≡ every (test l.digits) (9 - l.k) l.k
