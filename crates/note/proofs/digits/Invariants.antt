-- `note::digits` meets its contract. The loop's invariant: the marks
-- from `mark` on, stored from place n on, complete the answer.
-- Assumes nothing.
use Prim.Native.Nat.{◌<◌, ◌-◌}
use mathlib.Core.Path.{◌≡◌}
use lib.Seq.{sets}
use Rattle.sudoku.specs.Tests.{among}
use Rattle.note.specs.Note.{contains, digits_of}
use Rattle.note.proofs.digits.Given as goal

abbrev pub invariant-loop-mark : goal.invariant-loop-mark
invariant-loop-mark l =
    (l.n < l.mark) × (digits_of l.note ≡ sets l.marks l.n (among (contains l.note) (10 - l.mark) l.mark))
