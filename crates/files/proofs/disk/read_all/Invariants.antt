-- `files::disk::read_all` meets its contract, and ends: each turn but the last brings a byte.
-- Assumes nothing.
use Rattle.std.proofs.Common.{◌-◌, ◌≤◌}
use Rattle.files.proofs.disk.read_all.Given as goal

abbrev pub invariant-loop-at : goal.invariant-loop-at
invariant-loop-at g l = l.at ≤ 8192

abbrev pub decreases-loop-at : goal.decreases-loop-at
decreases-loop-at g l = 8192 - l.at
