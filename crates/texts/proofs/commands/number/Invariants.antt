-- `texts::commands::number` meets its contract: what is left of the text leads to the same number.
-- Assumes nothing.
use Rattle.std.proofs.Common.{◌≡◌, drop}
use Rattle.texts.specs.Commands.{with_figures}
use Rattle.texts.proofs.commands.number.Given as goal

abbrev pub invariant-loop-byte : goal.invariant-loop-byte
invariant-loop-byte l = with_figures 0 l.text ≡ with_figures l.n (drop l.byte-index l.text)
