-- `puzzle::vouch::rows_of` meets its contract: the rows passed so far are the solution's.
-- Assumes nothing.
use mathlib.Core.Path.{refl, ◌∙◌}
use native.Mathlib.Omega.{arith}
use lib.ListN.{length-set}
use Rattle.sudoku.specs.Tests.{listed}
use Rattle.sudoku.proofs.Listed.{fill_more, fill_all}
use Rattle.puzzle.specs.Code.Rows.{row_at, rows_of}
use Rattle.puzzle.proofs.vouch.rows_of.Goals as goal

pub loop-r-init : goal.loop-r-init
unfolding listed
loop-r-init c = (refl, refl)

pub loop-r-preserved : goal.loop-r-preserved
loop-r-preserved c =
    let turn = c.loop-r in (
      length-set turn.rows turn.r _ ∙ turn.invariant.0,
      rw c.row_at.ensures (fill_more (row_at c.args.solution.now) turn.rows turn.r (omega arith) turn.invariant.1),
    )

pub returns : goal.returns
unfolding rows_of
returns c =
    let turn = c.loop-r in
    fill_all (row_at c.args.solution.now) turn.rows 9 turn.r turn.invariant.0 (omega arith) (omega arith) turn.invariant.1
