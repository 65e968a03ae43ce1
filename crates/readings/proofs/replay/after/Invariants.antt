-- `readings::replay::after` meets its contract: what is left to apply from slot n on leads to the same state.
-- Assumes nothing.
use Prim.Native.Nat.{◌+◌, ◌-◌}
use mathlib.Core.Path.{◌≡◌}
use Rattle.sudoku.specs.Tests.{run}
use Rattle.board.specs.Board.{state_of, counts_of, moved}
use Rattle.readings.specs.Reading.{apply_slot}
use Rattle.readings.proofs.replay.after.Given as goal

-- the givens, the solution, the counts and the checks stay, and so the board is the opening one with another state
abbrev pub invariant-loop-n : goal.invariant-loop-n
invariant-loop-n l =
    (l.stood ≡ moved l.initial.stood (state_of l.stood) (counts_of l.initial.stood))
    × (run (apply_slot l.journal) (state_of l.initial.stood) l.k 1 ≡ run (apply_slot l.journal) (state_of l.stood) (l.k + 1 - l.n) l.n)
