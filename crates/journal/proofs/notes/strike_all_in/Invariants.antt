-- `journal::notes::strike_all_in` meets its contract. The loop's
-- invariant: striking at what is left of the cells completes the answer.
-- Assumes nothing.
use mathlib.Core.Path.{◌≡◌}
use lib.ListN.{drop}
use Rattle.journal.specs.State.{strike_all}
use Rattle.journal.proofs.notes.strike_all_in.Given as goal

abbrev pub invariant-loop-cell : goal.invariant-loop-cell
invariant-loop-cell l = strike_all l.initial.notes l.digit l.fn.cells ≡ strike_all l.notes l.digit (drop l.cell-index l.fn.cells)
