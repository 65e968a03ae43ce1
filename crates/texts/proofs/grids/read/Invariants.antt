-- `texts::grids::read` meets its contract: what is left of the text leads to the same cells.
-- Assumes nothing.
use Rattle.texts.proofs.Grid.{Leads}
use Rattle.texts.proofs.grids.read.Given as goal

abbrev pub invariant-loop-i : goal.invariant-loop-i
invariant-loop-i l = Leads l.text l.cells l.count l.i
