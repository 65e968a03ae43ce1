-- `lines::read_line` meets its contract: what was laid, or why nothing was.
-- Assumes nothing.
use Rattle.puzzle.specs.Givens.{triple_bytes}
use Rattle.lines.specs.Lines.{line_givens, read_refusal, read_line_of}
use Rattle.record.proofs.Writing.{told_wrote}
use Rattle.lines.specs.Errors.{line_error_refusal}
use Rattle.lines.proofs.Answered.{line_numbered}
use Rattle.lines.proofs.read_line.Goals as goal

pub returns : goal.returns
unfolding read_line_of
returns c =
    let a = c.args in
    let why = c.read.ensures in
    told_wrote line_error_refusal line_numbered (read_refusal a.line.now a.output.now) (triple_bytes (line_givens a.line.now)) a.output.now _ c.read.result _ why.refusal why.laid why.kept
    c.told.ensures
