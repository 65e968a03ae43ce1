-- `questions::accepts_marks` meets its contract.
-- Assumes nothing.
use Rattle.std.proofs.Common.{rules}
use mathlib.Core.Path.{◌∙◌}
use Rattle.journal.specs.State.{accepts_marks}
use Rattle.board.specs.Board.{state_of}
use Rattle.questions.specs.Questions.{accepts_marks_question}
use Rattle.questions.proofs.Asked.{asked}
use Rattle.questions.proofs.accepts_marks.Goals as goal

pub returns : goal.returns
unfolding accepts_marks_question accepts_marks state_of
returns c = c.yes_no.ensures ∙ asked _ _ _ _ _ c.cell_test-test.ensures c.map.ensures.cases (λ r l. search rules)
