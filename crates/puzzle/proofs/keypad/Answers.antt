-- `puzzle::keypad` meets its contract: what the cells passed so far count is taken off, what those ahead count is not.
-- Assumes nothing.
use mathlib.Core.Path.{sym, ◌∙◌}
use native.Mathlib.Omega.{arith}
use Rattle.sudoku.proofs.Walks.{both_false_left, both_false_right}
use Rattle.puzzle.proofs.Keys.{ahead_start, ahead_other, ahead_one, ahead_counted}
use Rattle.puzzle.proofs.keypad.Goals as goal
use Rattle.puzzle.proofs.keypad.Goals.{then-in_range+then-stands_clear, else-in_range, else-in_range-via-then-in_range+else-stands_clear, else-in_range-via-else-in_range}

pub loop-cell-init : goal.loop-cell-init
loop-cell-init c = ahead_start c.args.digits.now

pub overflow_sub-left-then-stands_clear : goal.overflow_sub-left-then-stands_clear
overflow_sub-left-then-stands_clear c =
    let turn = c.loop-cell in
    rw c.from.ensures
    (ahead_one c.args.digits.now turn.left turn.cell _ (omega arith) c.digit_at-digit.ensures turn.invariant (sym c.in_range.ensures ∙ c.if-in_range.true) (sym c.stands_clear.ensures ∙ c.if-stands_clear.true))

pub loop-cell-preserved : goal.loop-cell-preserved
loop-cell-preserved c =
    let turn = c.loop-cell in
    let is = c.digit_at-digit.ensures in
    elim c.if-in_range.branch [
      | then-in_range+then-stands_clear w ↦
          rw (w.left-is, w.from.ensures)
          (ahead_counted c.args.digits.now turn.left turn.cell _ (omega arith) is turn.invariant (sym c.in_range.ensures ∙ w.if-in_range.true) (sym w.stands_clear.ensures ∙ w.if-stands_clear.true))
      | else-in_range w ↦
          rw w.left-is
          (ahead_other c.args.digits.now turn.left turn.cell _ (omega arith) is turn.invariant
          (elim w.else-in_range.branch [
            | else-in_range-via-then-in_range+else-stands_clear w' ↦ both_false_right _ _ (sym w'.stands_clear.ensures ∙ w'.if-stands_clear.false)
            | else-in_range-via-else-in_range w' ↦ both_false_left _ _ (sym c.in_range.ensures ∙ w'.if-in_range.false)
          ]))
    ]
