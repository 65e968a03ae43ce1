-- `board::value::note_values` meets its contract. The invariant: what
-- was found so far, and what is left of the walk, make the whole walk.
-- Assumes nothing.
use Prim.Native.Nat.{◌+◌, ◌-◌}
use mathlib.Core.Path.{◌≡◌}
use Rattle.sudoku.specs.Tests.{both, every}
use Rattle.board.specs.Board.{note_value}
use Rattle.board.proofs.value.note_values.Given as goal

abbrev pub invariant-loop-note : goal.invariant-loop-note
invariant-loop-note l = every (note_value l.notes) 81 1 ≡ both l.ok (every (note_value l.notes) (82 - (l.note-index + 1)) (l.note-index + 1))
