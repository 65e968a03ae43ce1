-- `puzzle::vouch::filled` meets its contract: that of the walk, which finds nothing where all 81 cells hold digits.
-- Assumes nothing.
use mathlib.Core.Path.{sym, ◌∙◌}
use Rattle.puzzle.proofs.Posed.{digits_pass}
use Rattle.puzzle.proofs.vouch.filled.Goals as goal

pub returns-then-all_digits : goal.returns-then-all_digits
returns-then-all_digits c = sym (digits_pass _ (sym c.all_digits.ensures ∙ c.if-all_digits.true))
