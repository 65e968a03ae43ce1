-- `puzzle::keypad` meets its contract: what the cells passed so far count is taken off, what those ahead count is not.
-- Assumes nothing.
use Rattle.puzzle.proofs.Keys.{Ahead}
use Rattle.puzzle.proofs.keypad.Given as goal

abbrev pub invariant-loop-cell : goal.invariant-loop-cell
invariant-loop-cell l = Ahead l.digits l.left l.cell
