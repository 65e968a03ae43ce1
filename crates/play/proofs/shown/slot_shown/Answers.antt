-- `play::shown::slot_shown` meets its contract. Where there is such a move, its slot lies within the journal.
-- Assumes nothing.
use mathlib.Core.Path.{sym, ap, ◌∙◌}
use native.Mathlib.Omega.{arith}
use Rattle.journal.specs.Slots.{slot_part}
use Rattle.board.proofs.Told.{told_by, lent_err, lent_ok}
use Rattle.play.specs.Code.Turns.{shown_number}
use Rattle.play.proofs.Showing.{shown_within, shown_is}
use Rattle.play.proofs.shown.slot_shown.Goals as goal

pub returns-in_err-lent-clause-number : goal.returns-in_err-lent-clause-number
unfolding shown_number
returns-in_err-lent-clause-number g c = told_by _ _ _ c.from_residual.ensures.1 (lent_err _ _ _ _ c.in_err-lent.ensures)

pub returns-in_err-n-clause-number : goal.returns-in_err-n-clause-number
unfolding shown_number
returns-in_err-n-clause-number g c =
    let own = rw c.counts.ensures at c.in_err-n.ensures.number in
    told_by _ _ _ c.from_residual-in_err-n.ensures.1 (own ∙ sym (lent_ok _ _ _ c.in_ok-lent.ensures))

pub slot_part-requires : goal.slot_part-requires
unfolding shown_number
slot_part-requires g c =
    let own = rw c.counts.ensures at c.in_ok-n.ensures.number in
    let within = shown_within _ _ g.T.Turn.within c.args.board c.args.journal.now (lent_ok _ _ _ c.in_ok-lent.ensures ∙ sym own) in
    let slot = rw c.counts.ensures at c.in_ok-n.ensures.slot in
    (omega (arith, within.0, slot), omega (arith, within.1, slot))

pub returns-clause-number : goal.returns-clause-number
unfolding shown_number
returns-clause-number g c =
    let own = rw c.counts.ensures at c.in_ok-n.ensures.number in
    own ∙ sym (lent_ok _ _ _ c.in_ok-lent.ensures)

pub returns-clause-part : goal.returns-clause-part
unfolding shown_number
returns-clause-part g c =
    let own = rw c.counts.ensures at c.in_ok-n.ensures.number in
    let slot = rw c.counts.ensures at c.in_ok-n.ensures.slot in
    let shown = shown_is _ _ g.T.Turn.within c.args.board c.args.journal.now (lent_ok _ _ _ c.in_ok-lent.ensures ∙ sym own) in
    c.slot_part.ensures ∙ ap (slot_part c.args.journal.now) slot ∙ sym shown
