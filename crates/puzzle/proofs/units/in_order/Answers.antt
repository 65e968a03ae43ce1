-- `puzzle::units::in_order` meets its contract: the entries are those of the order, one by one.
-- Assumes nothing.
use borrow.Author.Rules.{rules}
use lib.ListN.{get_or}
use Rattle.sudoku.proofs.Made.{made_listed}
use Rattle.puzzle.specs.Code.Units.{reordered}
use Rattle.puzzle.proofs.units.in_order.Goals as goal

pub returns : goal.returns
unfolding reordered
returns c =
    let a = c.args in
    made_listed (λ i. get_or a.digits.now (get_or a.order.now i 0) 0) _ 81 (λ k y q l e. search rules) _ c.from_fn.ensures.items
