-- `puzzle::vouch::flat` meets its contract: the entries of the rows, one by one.
-- Assumes nothing.
use borrow.Author.Rules.{rules}
use Rattle.sudoku.proofs.Made.{made_listed}
use Rattle.puzzle.specs.Code.Rows.{entry_at, flat}
use Rattle.puzzle.proofs.vouch.flat.Goals as goal

pub returns : goal.returns
unfolding flat entry_at
returns c = made_listed (entry_at c.args.rows) _ 81 (λ k y q l e. search rules) _ c.from_fn.ensures.items
