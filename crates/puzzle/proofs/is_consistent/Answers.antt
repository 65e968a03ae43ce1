-- `puzzle::is_consistent` meets its contract: one test after the other is all three at once, and those say that no cell
-- conflicts. That the two tables list the orders is one test each, which antt computes over 81 entries: `refl`.
-- Assumes nothing.
use mathlib.Core.Path.{◌≡◌, refl, sym, ap, ◌∙◌}
use mathlib.Core.Bool.{Bool, true, false}
use mathlib.Core.List.{List}
use Prim.Native.Nat.{ℕ}
use lib.ListN.{get_or}
use Rattle.sudoku.specs.Tests.{every, both}
use Rattle.sudoku.proofs.Walks.{both_false_left, both_first, not_both_ways}
use Rattle.puzzle.specs.declared.orders.TheConstants.{ROWS, BOXES}
use Rattle.puzzle.specs.Puzzle.{is_consistent}
use Rattle.puzzle.specs.Code.Units.{columns_clear, reordered, row_order, box_order}
use Rattle.puzzle.proofs.Columns.{units_clear, reordered_same}
use Rattle.puzzle.proofs.is_consistent.Goals as goal
use Rattle.puzzle.proofs.is_consistent.Goals.{then-columns_clear, else-columns_clear}

module _ (digits : List ℕ) where
  rows : columns_clear (reordered (λ i. get_or ROWS i 0) digits) ≡ columns_clear (reordered row_order digits)
  unfolding every both row_order
  rows = ap columns_clear (reordered_same _ row_order digits refl)

  boxes : columns_clear (reordered (λ i. get_or BOXES i 0) digits) ≡ columns_clear (reordered box_order digits)
  unfolding every both box_order
  boxes = ap columns_clear (reordered_same _ box_order digits refl)

  -- the three tests, one after the other
  in_rows : Bool
  in_rows = columns_clear (reordered (λ i. get_or ROWS i 0) digits)

  in_boxes : Bool
  in_boxes = columns_clear (reordered (λ i. get_or BOXES i 0) digits)

  all_three : both (columns_clear digits) (both in_rows in_boxes) ≡ is_consistent digits
  unfolding in_rows in_boxes
  all_three = (λ j. both (columns_clear digits) (both (rows j) (boxes j))) ∙ units_clear digits

  all_clear : columns_clear digits ≡ true → in_rows ≡ true → in_boxes ≡ is_consistent digits
  all_clear p q = sym (both_first (columns_clear digits) _ p ∙ both_first in_rows in_boxes q) ∙ all_three

  row_twice : columns_clear digits ≡ true → in_rows ≡ false → false ≡ is_consistent digits
  row_twice p q = sym (both_first (columns_clear digits) _ p ∙ both_false_left in_rows in_boxes q) ∙ all_three

  column_twice : columns_clear digits ≡ false → false ≡ is_consistent digits
  column_twice p = sym (both_false_left (columns_clear digits) _ p) ∙ all_three

pub returns-then-clear_in : goal.returns-then-clear_in
unfolding in_rows in_boxes
returns-then-clear_in c =
    let digits = c.args.digits.now in
    elim c.if-columns_clear.branch [
      | then-columns_clear w ↦
          c.clear_in-then-clear_in.ensures
          ∙ all_clear digits (sym c.columns_clear.ensures ∙ w.if-columns_clear.true) (sym w.clear_in.ensures ∙ sym w.value-is ∙ c.if-clear_in.true)
      | else-columns_clear w ↦ absurd (not_both_ways _ c.if-clear_in.true (w.value-is ∙ w.if-columns_clear.false))
    ]

pub returns-else-clear_in : goal.returns-else-clear_in
unfolding in_rows in_boxes
returns-else-clear_in c =
    let digits = c.args.digits.now in
    elim c.if-columns_clear.branch [
      | then-columns_clear w ↦
          c.if-clear_in.false
          ∙ row_twice digits (sym c.columns_clear.ensures ∙ w.if-columns_clear.true) (sym w.clear_in.ensures ∙ sym w.value-is ∙ c.if-clear_in.false)
      | else-columns_clear w ↦ c.if-clear_in.false ∙ column_twice digits (sym c.columns_clear.ensures ∙ w.if-columns_clear.false)
    ]
