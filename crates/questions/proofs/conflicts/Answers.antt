-- `questions::conflicts` meets its contract.
-- Assumes nothing.
use Rattle.std.proofs.Common.{rules}
use mathlib.Core.Path.{◌∙◌}
use Rattle.questions.specs.Questions.{conflicts_question}
use Rattle.questions.proofs.Asked.{asked}
use Rattle.questions.proofs.conflicts.Goals as goal

pub returns : goal.returns
unfolding conflicts_question
returns c = c.yes_no.ensures ∙ asked _ _ _ _ _ c.cell_test-test.ensures c.map.ensures.cases (λ r l. search rules)
