-- `record::write::lay_stored` meets its contract: what is left to lay.
-- Assumes nothing.
use Prim.Native.Nat.{◌+◌}
use mathlib.Core.Path.{ap}
use native.Mathlib.Omega.{arith}
use lib.ListN.{length}
use Rattle.record.proofs.Laying.{laying_start, items_walk, part_room, part_laid, all_laid, all_left}
use Rattle.record.proofs.write.lay_stored.Goals as goal

pub loop-n-init : goal.loop-n-init
loop-n-init g c =
    let a = c.args in
    laying_start _ _ _ (omega (arith, c.requires, ap length (all_left (g.S.AsItem.item_in a.memory.now) a.count)))

pub lay_item-at-requires : goal.lay_item-at-requires
lay_item-at-requires g c =
    let a = c.args in
    rw c.item_at.ensures (part_room _ _ _ (items_walk (g.S.AsItem.item_in a.memory.now) (a.count + 1)) _ _ _ _ _ _ c.loop-n.invariant (omega arith))

pub loop-n-preserved : goal.loop-n-preserved
loop-n-preserved g c =
    let a = c.args in
    part_laid _ _ _ (items_walk (g.S.AsItem.item_in a.memory.now) (a.count + 1)) _ _ _ _ _ _ c.loop-n.invariant _ _ (omega arith) (rw c.item_at.ensures at c.lay_item-at.ensures)

-- no item, and after the last one
pub returns : goal.returns
returns g c =
    let a = c.args in
    let item = g.S.AsItem.item_in a.memory.now in
    all_laid _ _ _ (items_walk item (a.count + 1)) _ _ _ _ _ _ c.loop-n.invariant (omega arith) _ (all_left item a.count)

pub returns-2 : goal.returns-2
returns-2 g c =
    let a = c.args in
    let item = g.S.AsItem.item_in a.memory.now in
    let walk = items_walk item (a.count + 1) in
    let last = part_laid _ _ _ walk _ _ _ _ _ _ c.loop-n.invariant _ _ (omega arith) (rw c.item_at.ensures at c.lay_item-at.ensures) in
    all_laid _ _ _ walk _ _ _ _ _ _ last (omega arith) _ (all_left item a.count)
