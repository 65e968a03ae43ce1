-- `journal::notes::Write::is_fit` meets its contract.
-- Assumes nothing.
use Rattle.journal.proofs.CellLoops.{lacks_mark}
use Rattle.journal.proofs.notes.WriteMarkChange.is_fit.Goals as goal

pub returns : goal.returns
returns c = λ d b e. rw e (lacks_mark c.args.note d b)
