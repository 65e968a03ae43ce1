-- `note::with` meets its contract.
-- Assumes nothing.
use Rattle.note.proofs.Note.{or_power}
use Rattle.note.proofs.with.Goals as goal

pub returns : goal.returns
returns c = rw c.power.ensures (or_power c.args.note c.args.digit)
