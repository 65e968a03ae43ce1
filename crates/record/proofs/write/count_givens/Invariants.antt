-- `record::write::count_givens` meets its contract: the flags passed so far are counted.
-- Assumes nothing.
use Prim.Native.Nat.{◌≤◌}
use mathlib.Core.Path.{◌≡◌}
use lib.ListN.{take}
use Rattle.std.specs.List.{count_by}
use Rattle.puzzle.specs.Givens.{is_on}
use Rattle.record.proofs.write.count_givens.Given as goal

abbrev pub invariant-loop-flag : goal.invariant-loop-flag
invariant-loop-flag l = (l.n ≡ count_by is_on (take l.flag-index l.given)) × (l.n ≤ l.flag-index)
