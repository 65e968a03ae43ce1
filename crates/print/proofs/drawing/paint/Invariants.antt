-- `print::drawing::paint` is safe: a run has begun before the sign that is looked at.
-- Assumes nothing.
use Rattle.std.proofs.Common.{◌<◌}
use Rattle.print.proofs.drawing.paint.Given as goal

abbrev pub invariant-loop-n : goal.invariant-loop-n
invariant-loop-n l = l.start < l.n
