-- `undo::go` meets its contract: the digit with the status, and then the marks, are the whole.
-- Assumes nothing.
use native.Mathlib.Omega.{arith}
use Rattle.board.specs.Board.{state_of, counts_of, board_of, moved}
use Rattle.undo.proofs.Going.{stopped, unsound, unfit_parts, gone}
use Rattle.undo.proofs.go.Goals as goal

pub returns-in_err-n : goal.returns-in_err-n
returns-in_err-n g c = grind (arith, stopped g.D.Direction.way g.met.D.Direction.laws)

pub returns-then-not-is_sound : goal.returns-then-not-is_sound
returns-then-not-is_sound g c = grind (arith, unsound g.D.Direction.way g.met.D.Direction.laws)

pub returns-then-not-digit_stood-marks_stood : goal.returns-then-not-digit_stood-marks_stood
returns-then-not-digit_stood-marks_stood g c = grind (arith, unfit_parts g.D.Direction.way g.met.D.Direction.laws)

pub returns : goal.returns
unfolding moved board_of state_of counts_of
returns g c = grind (arith, gone g.D.Direction.way g.met.D.Direction.laws)
