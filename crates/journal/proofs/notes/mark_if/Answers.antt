-- `journal::notes::mark_if` meets its contract: the mark's value is taken no or one time.
-- Assumes nothing.
use Prim.Native.Nat.{◌%◌}
use native.Mathlib.Nat.{mul_comm}
use native.Mathlib.Omega.{arith}
use Rattle.note.specs.Note.{power_of}
use Rattle.note.proofs.Note.{times_le, power_below}
use Rattle.journal.specs.State.{lowest}
use Rattle.journal.proofs.CellLoops.{low_bit, times_bit}
use Rattle.journal.proofs.notes.mark_if.Goals as goal

pub overflow_mul-result : goal.overflow_mul-result
overflow_mul-result c =
    let a = c.args in
    record { fits = omega (arith, mul_comm (a.mask % 2) c.power.result, times_le c.power.result (a.mask % 2) (omega arith), c.power.ensures, power_below a.digit) }

pub returns : goal.returns
returns c = let a = c.args in rw (low_bit a.mask, c.power.ensures) (times_bit (lowest a.mask) (power_of a.digit))
