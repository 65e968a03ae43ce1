-- `puzzle::vouch::first_conflict` meets its contract: what is left to test from `cell` on decides.
-- Assumes nothing.
use Prim.Native.Nat.{◌-◌}
use mathlib.Core.Path.{◌≡◌}
use Rattle.puzzle.specs.Refusals.{first_refused}
use Rattle.puzzle.specs.Vouch.{solution_conflict}
use Rattle.puzzle.specs.Code.Rows.{flat}
use Rattle.puzzle.proofs.vouch.first_conflict.Given as goal

abbrev pub invariant-loop-cell : goal.invariant-loop-cell
invariant-loop-cell l =
    first_refused (solution_conflict (flat l.rows)) 81 1 ≡ first_refused (solution_conflict (flat l.rows)) (82 - l.cell) l.cell
