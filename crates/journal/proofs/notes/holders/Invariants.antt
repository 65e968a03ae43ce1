-- `journal::notes::holders` meets its contract. The loop's invariant: the mask is that of the cells passed so far.
-- Assumes nothing.
use mathlib.Core.Path.{◌≡◌}
use mathlib.Core.List.{List, ◌++◌}
use Prim.Native.Nat.{ℕ}
use Rattle.journal.specs.State.{holders}
use Rattle.journal.proofs.notes.holders.Given as goal

abbrev pub invariant-loop-cell : goal.invariant-loop-cell
invariant-loop-cell l = (passed : List ℕ) × (l.fn.cells ≡ l.cell-iterator.iter.rest.now ++ passed) × (l.mask ≡ holders l.notes l.digit passed)
