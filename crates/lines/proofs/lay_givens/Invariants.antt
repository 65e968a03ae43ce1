-- `lines::lay_givens` meets its contract: what is left to lay.
-- Assumes nothing.
use Rattle.record.proofs.Laying.{Laying}
use Rattle.lines.proofs.Reading.{digits_left}
use Rattle.lines.proofs.lay_givens.Given as goal

abbrev pub invariant-loop-cell : goal.invariant-loop-cell
invariant-loop-cell l = Laying l.initial.output 0 (digits_left l.digits 1) l.output l.at (digits_left l.digits l.cell)
