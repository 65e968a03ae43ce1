-- `record::scan::scan` meets its contract. The invariant: what was counted so
-- far and what is left to read come to what the whole record comes to.
-- Assumes nothing.
use Prim.Native.Nat.{◌-◌}
use lib.ListN.{length}
use Rattle.record.specs.Scan.{malformed, parts_of_bytes}
use Rattle.record.specs.Code.Counting.{counts_of}
use Rattle.record.proofs.Scanning.{left, Comes, Going}
use Rattle.record.proofs.scan.scan.Given as goal

abbrev pub invariant-loop-state : goal.invariant-loop-state
invariant-loop-state l =
    Going l.state × Comes l.state (left l.bytes l.state.at) (malformed l.bytes) (counts_of (parts_of_bytes l.bytes))

abbrev pub decreases-loop-state : goal.decreases-loop-state
decreases-loop-state l =
    length l.bytes - l.state.at
