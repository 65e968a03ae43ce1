-- `undo::asking::number` meets its contract: what is refused before its slot is asked has no place.
-- Assumes nothing.
use native.Mathlib.Omega.{arith}
use Rattle.undo.proofs.Going.{before_below}
use Rattle.undo.proofs.asking.number.Goals as goal

pub returns-in-Err : goal.returns-in-Err
returns-in-Err g c = grind (arith, before_below g.D.Direction.way g.met.D.Direction.laws)
