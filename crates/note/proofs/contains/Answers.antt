-- `note::contains` meets its contract: what the note has in common
-- with the mark's value is not 0 exactly where the mark is written.
-- Assumes nothing.
use Rattle.note.proofs.Note.{power_tests}
use Rattle.note.proofs.contains.Goals as goal

pub returns : goal.returns
returns c = rw c.power.ensures (power_tests c.args.note c.args.digit)
