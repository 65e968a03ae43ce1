-- `record::write::lay_stored` meets its contract: what is left to lay.
-- Assumes nothing.
use Prim.Native.Nat.{◌+◌}
use Rattle.record.proofs.Laying.{Laying, items_left}
use Rattle.record.proofs.write.lay_stored.Given as goal

abbrev pub invariant-loop-n : goal.invariant-loop-n
invariant-loop-n g l =
    let left = items_left (g.S.AsItem.item_in l.memory) (l.count + 1) in
    Laying l.initial.output l.start (left 1) l.output l.at (left l.n)
