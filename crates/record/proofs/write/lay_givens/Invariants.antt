-- `record::write::lay_givens` meets its contract: what is left to lay.
-- Assumes nothing.
use Rattle.record.proofs.Laying.{Laying, givens_left}
use Rattle.record.proofs.write.lay_givens.Given as goal

abbrev pub invariant-loop-cell : goal.invariant-loop-cell
invariant-loop-cell l =
    Laying l.initial.output 0 (givens_left l.board 1) l.output l.at (givens_left l.board l.cell)
