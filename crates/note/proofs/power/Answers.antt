-- `note::power` meets its contract: 1 shifted by a digit is a power of two that fits.
-- Assumes nothing.
use mathlib.Core.Path.{sym, ◌∙◌}
use native.Mathlib.Nat.{one-mul}
use native.Mathlib.Omega.{arith}
use lib.Pow.{shl_exact}
use Rattle.sudoku.proofs.Grid.{range_to}
use Rattle.note.proofs.Note.{power_digit, power_no_digit}
use Rattle.note.proofs.power.Goals as goal

pub overflow_shl-result : goal.overflow_shl-result
overflow_shl-result c = omega (arith, range_to _ (sym c.in_range.ensures ∙ c.if-in_range.true))

pub returns-then-in_range : goal.returns-then-in_range
returns-then-in_range c =
    shl_exact 1 c.args.digit 16 (omega arith) (omega (arith, range_to _ (sym c.in_range.ensures ∙ c.if-in_range.true)))
    ∙ one-mul _
    ∙ sym (power_digit _ (sym c.in_range.ensures ∙ c.if-in_range.true))

pub returns-else-in_range : goal.returns-else-in_range
returns-else-in_range c = sym (power_no_digit _ (sym c.in_range.ensures ∙ c.if-in_range.false))
