-- `journal::notes::Strike::changed` meets its contract.
-- Assumes nothing.
use Rattle.journal.proofs.CellLoops.{less_mark}
use Rattle.journal.proofs.notes.StrikeMarkChange.changed.Goals as goal

pub returns : goal.returns
returns c = λ d b e. rw e (less_mark c.args.note d b)
