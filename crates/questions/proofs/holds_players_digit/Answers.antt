-- `questions::holds_players_digit` meets its contract.
-- Assumes nothing.
use Rattle.std.proofs.Common.{rules}
use mathlib.Core.Path.{◌∙◌}
use Rattle.journal.specs.State.{holds_players_digit}
use Rattle.board.specs.Board.{state_of}
use Rattle.questions.specs.Questions.{players_digit_question}
use Rattle.questions.proofs.Asked.{asked}
use Rattle.questions.proofs.holds_players_digit.Goals as goal

pub returns : goal.returns
unfolding players_digit_question holds_players_digit state_of
returns c = c.yes_no.ensures ∙ asked _ _ _ _ _ c.cell_test-test.ensures c.map.ensures.cases (λ r l. search rules)
