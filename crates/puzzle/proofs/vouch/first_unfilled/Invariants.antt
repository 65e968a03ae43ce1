-- `puzzle::vouch::first_unfilled` meets its contract: what is left to test from `at` on decides.
-- Assumes nothing.
use Prim.Native.Nat.{◌+◌, ◌-◌}
use mathlib.Core.Path.{◌≡◌}
use Rattle.puzzle.specs.Refusals.{first_refused}
use Rattle.puzzle.specs.Vouch.{solution_digit}
use Rattle.puzzle.specs.Code.Rows.{flat}
use Rattle.puzzle.proofs.vouch.first_unfilled.Given as goal

abbrev pub invariant-loop-at : goal.invariant-loop-at
invariant-loop-at l =
    first_refused (solution_digit (flat l.rows)) 81 1 ≡ first_refused (solution_digit (flat l.rows)) (82 - (l.at + 1)) (l.at + 1)
