-- `record::write::Kept::moves_length` meets its contract: what was counted so far, and the bytes of what is left.
-- Assumes nothing.
use Prim.Native.Nat.{◌≤◌, ◌+◌, ◌-◌, ◌*◌}
use mathlib.Core.Path.{◌≡◌}
use lib.ListN.{length}
use Rattle.journal.specs.Limits.{move_item_bytes}
use Rattle.record.specs.Code.Laying.{moves_bytes, move_in}
use Rattle.record.proofs.Laying.{items_left}
use Rattle.record.proofs.write.Kept.moves_length.Given as goal

abbrev pub invariant-loop-n : goal.invariant-loop-n
invariant-loop-n l =
    let journal = l.self.journal.now in
    let made = l.self.board.now.made in
    (l.n ≤ made + 1) × (l.total ≤ move_item_bytes * (l.n - 1))
    × (l.total + length (items_left (move_in journal) (made + 1) l.n) ≡ length (moves_bytes journal made))
