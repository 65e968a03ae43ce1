-- `lines::lay_givens` meets its contract: what is left to lay.
-- Assumes nothing.
use mathlib.Core.Path.{ap}
use native.Mathlib.Omega.{arith}
use lib.ListN.{length}
use Rattle.record.proofs.Laying.{laying_start, part_room, part_laid, all_laid}
use Rattle.lines.proofs.Reading.{digits_room, digits_walk, digits_all}
use Rattle.lines.proofs.lay_givens.Goals as goal

pub loop-cell-init : goal.loop-cell-init
loop-cell-init c =
    let digits = c.args.digits.now in
    laying_start _ _ _ (omega (arith, c.requires, digits_room digits, ap length (digits_all digits)))

pub lay_given-at-requires : goal.lay_given-at-requires
lay_given-at-requires c = (omega arith, part_room _ _ _ (digits_walk c.args.digits.now) _ _ _ _ _ _ c.loop-cell.invariant (omega arith))

pub loop-cell-preserved : goal.loop-cell-preserved
loop-cell-preserved c = part_laid _ _ _ (digits_walk c.args.digits.now) _ _ _ _ _ _ c.loop-cell.invariant _ _ (omega arith) c.lay_given-at.ensures

pub returns : goal.returns
returns c =
    let digits = c.args.digits.now in
    let end = all_laid _ _ _ (digits_walk digits) _ _ _ _ _ _ c.loop-cell.invariant (omega arith) _ (digits_all digits) in
    (omega (arith, end.0), end.1)
