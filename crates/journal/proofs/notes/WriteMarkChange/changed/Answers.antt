-- `journal::notes::Write::changed` meets its contract.
-- Assumes nothing.
use Rattle.journal.proofs.CellLoops.{or_mark}
use Rattle.journal.proofs.notes.WriteMarkChange.changed.Goals as goal

pub returns : goal.returns
returns c = λ d b e. rw e (or_mark c.args.note d b)
