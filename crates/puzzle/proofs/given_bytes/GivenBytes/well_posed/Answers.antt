-- `puzzle::given_bytes::GivenBytes::well_posed` meets its contract: 19, then 22 to 27.
-- Assumes nothing.
use mathlib.Core.Path.{refl, sym, ◌∙◌}
use borrow.Author.Tests.{eqb-false}
use Rattle.sudoku.proofs.Walks.{not_is_true, not_is_false}
use Rattle.puzzle.specs.Refusals.{refusal}
use Rattle.puzzle.specs.Givens.{ascending}
use Rattle.puzzle.specs.Code.GivenBytes.{givens_in}
use Rattle.puzzle.specs.Vouch.{well_posed}
use Rattle.puzzle.proofs.Accepted.{if_not}
use Rattle.puzzle.proofs.Refusals.{refused_if_lem, or_else_by, or_else_past}
use Rattle.puzzle.proofs.given_bytes.GivenBytes.well_posed.Goals as goal

pub returns-then-not-is_ascending : goal.returns-then-not-is_ascending
unfolding well_posed
returns-then-not-is_ascending c =
    let self = c.args.self in
    sym (or_else_by _ _ (refusal 19 0 0)
    (refused_if_lem _ (refusal 19 0 0) (not_is_true (ascending (givens_in self.layout self.bytes.now self.count))
    (sym c.is_ascending.ensures ∙ c.if-not-is_ascending.true))) (eqb-false 19 0 refl))

pub returns : goal.returns
unfolding well_posed
returns c =
    let self = c.args.self in
    c.vouch.ensures
    ∙ sym (or_else_past _ _
    (if_not _ (refusal 19 0 0) (not_is_false (ascending (givens_in self.layout self.bytes.now self.count))
    (sym c.is_ascending.ensures ∙ c.if-not-is_ascending.false))))
