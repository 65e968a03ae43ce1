-- `record::write::write` meets its contract: the record, or why it is not written.
-- Assumes nothing.
use Rattle.record.specs.Items.{record_of}
use Rattle.record.specs.Errors.{write_error_refusal}
use Rattle.record.specs.Write.{parts_of, write_refusal, write_of}
use Rattle.record.proofs.Errors.{write_numbered}
use Rattle.record.proofs.Writing.{told_wrote}
use Rattle.record.proofs.write.write.Goals as goal

pub returns : goal.returns
unfolding write_of
returns c =
    let a = c.args in
    let why = c.written.ensures in
    told_wrote write_error_refusal write_numbered (write_refusal a.board a.journal.now a.checks.now a.output.now)
    (record_of (parts_of a.board a.journal.now a.checks.now)) a.output.now _ c.written.result _ why.refusal why.laid why.kept c.told.ensures
