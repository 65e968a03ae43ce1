-- `questions::is_full` meets its contract.
-- Assumes nothing.
use Rattle.std.proofs.Common.{rules}
use mathlib.Core.Path.{◌∙◌}
use Rattle.questions.specs.Questions.{full_question}
use Rattle.questions.proofs.Asked.{asked}
use Rattle.questions.proofs.is_full.Goals as goal

pub returns : goal.returns
unfolding full_question
returns c = c.yes_no.ensures ∙ asked _ _ _ _ _ c.board_test.ensures c.map.ensures.cases (λ r l. search rules)
