-- `undo::perform_again` meets its contract: the digit with the status, and then the marks, are the whole.
-- Assumes nothing.
use mathlib.Core.Path.{ap}
use Rattle.journal.specs.State.{State}
use Rattle.board.specs.Board.{state_of, counts_of, board_of, moved}
use Rattle.undo.specs.Code.Kept.{again_laws}
use Rattle.undo.proofs.perform_again.Goals as goal

pub returns : goal.returns
unfolding moved board_of state_of counts_of
returns c =
    let b = c.args.board.now in
    rw (c.change.ensures.board, c.put.ensures.board) (ap (λ (s : State). moved b s (counts_of b)) (again_laws.whole (state_of b) c.args.slot))
