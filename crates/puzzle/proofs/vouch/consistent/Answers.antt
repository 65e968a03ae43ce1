-- `puzzle::vouch::consistent` meets its contract: that of the walk over the
-- rows, which finds nothing where the grid is full and no cell conflicts.
-- Assumes nothing.
use mathlib.Core.Path.{sym, ◌∙◌}
use Rattle.puzzle.proofs.Posed.{consistent_passes}
use Rattle.puzzle.proofs.vouch.consistent.Goals as goal

pub returns-then-is_consistent : goal.returns-then-is_consistent
returns-then-is_consistent c =
    rw (← c.flat-digits.ensures) (sym (consistent_passes _ (sym c.is_full.ensures ∙ c.if-is_full.true) (sym c.is_consistent.ensures ∙ c.if-is_consistent.true)))
