-- `questions::unless_solved` meets its contract.
-- Assumes nothing.
use Rattle.std.proofs.Common.{rules}
use mathlib.Core.Path.{◌∙◌}
use Rattle.sudoku.specs.Tests.{both}
use Rattle.questions.proofs.Asked.{asked}
use Rattle.questions.proofs.unless_solved.Goals as goal

pub returns : goal.returns
unfolding both
returns c = c.yes_no.ensures ∙ asked _ _ _ _ _ c.board_test.ensures c.map.ensures.cases (λ r l. search rules)
