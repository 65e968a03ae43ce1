-- `journal::lent::write_entry` meets its contract: the bytes are copied over the place of the entry where the memory has it.
-- Assumes nothing.
use mathlib.Core.Path.{sym}
use native.Mathlib.Omega.{arith}
use lib.ListN.{length}
use Rattle.journal.proofs.Stores.{laid_past, copied, entry_fits, entry_past}
use Rattle.journal.proofs.lent.write_entry.Goals as goal

pub returns-then-index-memory : goal.returns-then-index-memory
returns-then-index-memory g c =
    rw c.copy_from_slice.ensures.after
    (copied _ _ _ c.args.bytes.now (omega arith) (omega (arith, entry_fits g.row.N c.args.index (length c.args.memory.now) c.requires c.if-index-memory.true)))

pub returns-else-index-memory : goal.returns-else-index-memory
returns-else-index-memory g c = sym (laid_past _ _ _ (omega (arith, entry_past g.row.N c.args.index (length c.args.memory.now) c.requires c.if-index-memory.false)))
