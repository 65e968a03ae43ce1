-- `journal::notes::strike_all_in` meets its contract. The loop's
-- invariant: striking at what is left of the cells completes the answer.
-- Assumes nothing.
use mathlib.Core.Path.{◌≡◌, refl, sym, ◌∙◌}
use lib.ListN.{length}
use Rattle.journal.proofs.CellLoops.{strike_all_turn, strike_all_end}
use borrow.Author.Rules.{rules}
use Rattle.journal.proofs.notes.strike_all_in.Goals as goal

pub loop-cell-init : goal.loop-cell-init
loop-cell-init c = refl

pub loop-cell-preserved : goal.loop-cell-preserved
loop-cell-preserved c =
    let twenty : length c.args.cells ≡ 20 = search rules in
    c.loop-cell.invariant ∙ strike_all_turn c.args.cells c.loop-cell.cell-index (rw twenty c.loop-cell-test.true) _ _ ∙ rw (c.change_in.ensures, c.from.ensures)

pub returns : goal.returns
returns c =
    let twenty : length c.args.cells ≡ 20 = search rules in
    sym (c.loop-cell.invariant ∙ strike_all_end c.args.cells c.loop-cell.cell-index (rw twenty c.loop-cell-test.false) _ _)
