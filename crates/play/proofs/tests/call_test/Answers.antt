-- `play::tests::call_test` meets its contract: what is lent, the call's own, and the room in the journal, in this order.
-- Assumes nothing.
use mathlib.Core.Path.{sym, ◌∙◌}
use borrow.Author.Tests.{eq-eqb, ne_eqb}
use Rattle.sudoku.proofs.Walks.{refused}
use Rattle.board.specs.Board.{state_of}
use Rattle.board.proofs.Numbers.{last_if}
use Rattle.board.proofs.Told.{told_by, lent_err, lent_ok, told_err, told_ok}
use Rattle.play.specs.Play.{call_tests}
use Rattle.play.proofs.Joined.{plays_numbered}
use Rattle.play.proofs.tests.call_test.Goals as goal

pub returns-in_err-lent : goal.returns-in_err-lent
unfolding call_tests
returns-in_err-lent c = told_by _ _ _ c.from_residual.ensures.1 (lent_err _ _ _ _ c.in_err-lent.ensures)

pub returns-in_err-play_test : goal.returns-in_err-play_test
unfolding call_tests
returns-in_err-play_test c =
    let own = rw c.requires at c.in_err-play_test.ensures in
    told_by _ _ _ c.from_residual-in_err-play_test.ensures.1 (told_err _ _ _ own ∙ sym (lent_ok _ _ _ c.in_ok-lent.ensures))

pub returns-then-board-eq-MAX_MOVES : goal.returns-then-board-eq-MAX_MOVES
unfolding call_tests
returns-then-board-eq-MAX_MOVES c =
    let own = rw c.requires at c.in_ok-play_test.ensures in
    sym (lent_ok _ _ _ c.in_ok-lent.ensures ∙ told_ok _ _ (plays_numbered (state_of c.args.board) c.args.p) own ∙ refused _ 15 _ (eq-eqb _ _ c.if-board-eq-MAX_MOVES.true))

pub returns : goal.returns
unfolding call_tests
returns c =
    let own = rw c.requires at c.in_ok-play_test.ensures in
    sym (lent_ok _ _ _ c.in_ok-lent.ensures ∙ told_ok _ _ (plays_numbered (state_of c.args.board) c.args.p) own ∙ last_if _ 15 (ne_eqb _ _ c.if-board-eq-MAX_MOVES.false))
