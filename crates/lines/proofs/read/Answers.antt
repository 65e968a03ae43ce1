-- `lines::read` meets its contract: 34, then 36 and 37, then the givens.
-- Assumes nothing.
use mathlib.Core.Path.{◌≡◌, sym, ap, ◌∙◌}
use mathlib.Core.Bool.{true}
use lib.ListN.{length}
use Rattle.puzzle.specs.Refusals.{is_accepted}
use Rattle.journal.specs.Bytes.{over}
use Rattle.lines.specs.Lines.{line_refusal, digits_bytes}
use Rattle.lines.proofs.Reading.{digits_of_line}
use Rattle.lines.proofs.read.Goals as goal

pub returns-clause-laid : goal.returns-clause-laid
unfolding is_accepted
returns-clause-laid c =
    let a = c.args in
    let told = c.in_ok-digits.ensures in
    let t : is_accepted (line_refusal a.line.now) ≡ true = sym (ap is_accepted told.refusal) in
    let same = ap digits_bytes told.digits ∙ digits_of_line a.line.now t in
    (c.lay_givens.ensures.0 ∙ ap length same, c.lay_givens.ensures.1 ∙ ap (over a.output.now 0) same)
