-- `pawdoku::list::pawdoku_play` meets its contract: what is left of the run is run from what the last call left.
-- Assumes nothing.
use Prim.Native.Nat.{◌-◌}
use mathlib.Core.Path.{◌≡◌}
use Rattle.calls.specs.Encoded.{session, run_from}
use Rattle.pawdoku.proofs.list.pawdoku_play.Given as goal

abbrev pub invariant-loop-i : goal.invariant-loop-i
invariant-loop-i l =
    run_from l.calls (session l.initial.left l.initial.journal l.initial.checks) l.initial.answers l.end 0 ≡ run_from l.calls (session l.left l.journal l.checks) l.answers (l.end - l.i) l.i
