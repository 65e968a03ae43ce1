-- `journal::notes::Strike::is_fit` meets its contract.
-- Assumes nothing.
use Rattle.journal.proofs.CellLoops.{has_mark}
use Rattle.journal.proofs.notes.StrikeMarkChange.is_fit.Goals as goal

pub returns : goal.returns
returns c = λ d b e. rw e (has_mark c.args.note d b)
