-- `note::without` meets its contract; what is common to the note and the mark's value is no more than the note.
-- Assumes nothing.
use lib.Bits.{and_le_l}
use Rattle.note.proofs.Note.{less_power}
use Rattle.note.proofs.without.Goals as goal

pub overflow_sub-result : goal.overflow_sub-result
overflow_sub-result c = and_le_l c.args.note c.power.result

pub returns : goal.returns
returns c = rw c.power.ensures (less_power c.args.note c.args.digit)
