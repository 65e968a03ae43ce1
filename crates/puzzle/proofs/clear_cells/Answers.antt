-- `puzzle::clear_cells` meets its contract: the cells passed so far are counted, those ahead are still to be.
-- Assumes nothing.
use mathlib.Core.Path.{sym, ◌∙◌}
use native.Mathlib.Omega.{arith}
use Rattle.sudoku.proofs.Walks.{count_more, count_skips}
use Rattle.puzzle.specs.Puzzle.{stands_clear}
use Rattle.puzzle.proofs.clear_cells.Goals as goal
use Rattle.puzzle.proofs.clear_cells.Goals.{then-stands_clear, else-stands_clear}

pub loop-cell-preserved : goal.loop-cell-preserved
loop-cell-preserved c =
    let turn = c.loop-cell in
    let f = stands_clear c.args.digits.now c.args.digit in
    elim c.if-stands_clear.branch [
      | then-stands_clear w ↦ omega (arith, turn.invariant, count_more f 82 turn.cell turn.n (omega arith) (sym c.stands_clear.ensures ∙ w.if-stands_clear.true), w.n-is)
      | else-stands_clear w ↦ omega (arith, turn.invariant, count_skips f 82 turn.cell (omega arith) (sym c.stands_clear.ensures ∙ w.if-stands_clear.false), w.n-is)
    ]
