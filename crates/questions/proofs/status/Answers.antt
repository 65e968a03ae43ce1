-- `questions::status` meets its contract.
-- Assumes nothing.
use Rattle.std.proofs.Common.{rules}
use mathlib.Core.Path.{◌∙◌}
use Rattle.questions.specs.Questions.{status_question}
use Rattle.questions.proofs.Asked.{asked}
use Rattle.questions.proofs.status.Goals as goal

pub returns : goal.returns
unfolding status_question
returns c = c.yes_no.ensures ∙ asked _ _ _ _ _ c.board_test.ensures c.map.ensures.cases (λ r l. search rules)
