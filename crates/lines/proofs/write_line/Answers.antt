-- `lines::write_line` meets its contract: what was laid, or why nothing was.
-- Assumes nothing.
use Rattle.lines.specs.Lines.{line_of, write_line_refusal, write_line_of}
use Rattle.record.proofs.Writing.{told_wrote}
use Rattle.lines.specs.Errors.{line_error_refusal}
use Rattle.lines.proofs.Answered.{line_numbered}
use Rattle.lines.proofs.write_line.Goals as goal

pub returns : goal.returns
unfolding write_line_of
returns c =
    let a = c.args in
    let why = c.written.ensures in
    told_wrote line_error_refusal line_numbered (write_line_refusal a.board a.output.now) (line_of a.board) a.output.now _ c.written.result _ why.refusal why.laid why.kept
    c.told.ensures
