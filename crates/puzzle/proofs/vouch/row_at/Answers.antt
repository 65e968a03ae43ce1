-- `puzzle::vouch::row_at` meets its contract: its entries, one by one.
-- Assumes nothing.
use Prim.Native.Nat.{◌+◌, ◌*◌}
use borrow.Author.Rules.{rules}
use lib.ListN.{get_or}
use Rattle.sudoku.proofs.Made.{made_listed}
use Rattle.puzzle.specs.Code.Rows.{row_at}
use Rattle.puzzle.proofs.vouch.row_at.Goals as goal

pub returns : goal.returns
unfolding row_at
returns c =
    let a = c.args in
    made_listed (λ i. get_or a.solution.now (9 * a.r + i) 0) _ 9 (λ k y q l e. search rules) _ c.from_fn.ensures.items
