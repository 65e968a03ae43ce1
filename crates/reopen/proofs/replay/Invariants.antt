-- `reopen::replay` meets its contract: what is left to perform from the board and the journal as they are decides.
-- Assumes nothing.
use Prim.Native.Nat.{◌≤◌, ◌<◌, ◌+◌, ◌-◌, ◌*◌}
use mathlib.Core.Path.{◌≡◌}
use lib.ListN.{length}
use Rattle.journal.specs.Limits.{journal_bytes, move_item_bytes}
use Rattle.record.specs.Reopen.{replay}
use Rattle.reopen.specs.Code.Reopening.{moves_at}
use Rattle.reopen.proofs.replay.Given as goal

abbrev pub invariant-loop-k : goal.invariant-loop-k
invariant-loop-k l =
    (length l.journal ≡ journal_bytes) × (l.played.standing < l.k) × (l.at ≤ l.start + move_item_bytes * (l.k - 1))
    × (replay l.played l.journal l.k (moves_at l.bytes l.at (l.count + 1 - l.k)) ≡ replay l.initial.played l.initial.journal 1 (moves_at l.bytes l.start l.count))
