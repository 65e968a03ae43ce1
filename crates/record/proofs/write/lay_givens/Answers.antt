-- `record::write::lay_givens` meets its contract: what is left to lay.
-- Assumes nothing.
use mathlib.Core.Path.{ap}
use native.Mathlib.Omega.{arith}
use lib.ListN.{length}
use Rattle.record.proofs.Laying.{laying_start, part_room, part_laid, all_laid, givens_walk, givens_all}
use Rattle.record.proofs.write.lay_givens.Goals as goal

pub loop-cell-init : goal.loop-cell-init
loop-cell-init c = laying_start _ _ _ (omega (arith, c.requires, ap length (givens_all c.args.board.now)))

pub lay_given-at-requires : goal.lay_given-at-requires
lay_given-at-requires c = (omega arith, part_room _ _ _ (givens_walk c.args.board.now) _ _ _ _ _ _ c.loop-cell.invariant (omega arith))

pub loop-cell-preserved : goal.loop-cell-preserved
loop-cell-preserved c = part_laid _ _ _ (givens_walk c.args.board.now) _ _ _ _ _ _ c.loop-cell.invariant _ _ (omega arith) c.lay_given-at.ensures

pub returns : goal.returns
returns c =
    let b = c.args.board.now in
    let end = all_laid _ _ _ (givens_walk b) _ _ _ _ _ _ c.loop-cell.invariant (omega arith) _ (givens_all b) in
    (omega (arith, end.0), end.1)
