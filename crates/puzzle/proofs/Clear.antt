-- The laws of the keypad: in no row, column or box do two cells hold a digit and conflict with no peer, so at most nine
-- cells do, and what is left and those cells are nine.
-- Assumes nothing.
use Prim.Native.Nat.{ℕ, ◌+◌, ◌≤◌}
use mathlib.Core.Path.{◌≡◌, refl, sym, ap, ◌∙◌}
use mathlib.Core.Bool.{Bool, true, false, not}
use mathlib.Core.List.{List}
use native.Mathlib.Omega.{arith}
use borrow.Author.Tests.{eqb-true, eq-eqb, ne_eqb, not-true}
use lib.Dec.{eqb}
use Rattle.sudoku.specs.Tests.{both, count}
use Rattle.sudoku.specs.Grid.{is_cell, are_peers, peers_of, at}
use Rattle.sudoku.proofs.Walks.{by_test, not_both_ways, both_true, both_left, both_right, both_false_right, both_comm}
use Rattle.sudoku.proofs.Grid.{is_cell_lem, range_from, range_to}
use Rattle.sudoku.proofs.Counting.{count_zero, count_by_value, total, total_le}
use Rattle.puzzle.specs.Puzzle.{is_held, holds_digit, conflicts, stands_clear, clear_cells, digits_left}
use Rattle.puzzle.specs.EachOnce.{Kind, Row, unit_of, in_unit}
use Rattle.puzzle.proofs.Puzzle.{peers_hold}
use Rattle.puzzle.proofs.EachOnce.{unit_in_range, unit_apart}

-- a cell counts for a key from 1 on where it holds the digit and no peer does
pub clear_is : (digits : List ℕ) (e cell : ℕ) → (e ≡ 0 → ⊥) → stands_clear digits e cell ≡ both (eqb (at digits cell) e) (not (is_held digits e (peers_of cell)))
unfolding stands_clear conflicts holds_digit both
clear_is digits e cell h =
    by_test (eqb (at digits cell) e)
    (λ t. let w : at digits cell ≡ e = eqb-true (at digits cell) e t in rw (w, ne_eqb e 0 h, eq-eqb e e refl) refl)
    (λ f. rw f (none (holds_digit digits cell)))
  where
    none : (t : Bool) → both (both t false) (not (both t (is_held digits (at digits cell) (peers_of cell)))) ≡ false
    none true = refl
    none false = refl

module _ (digits : List ℕ) (d : ℕ) where
  -- what a cell that counts holds, and that it conflicts with no peer
  pub clear_holds : (cell : ℕ) → stands_clear digits d cell ≡ true → (holds_digit digits cell ≡ true) × (at digits cell ≡ d)
  unfolding stands_clear
  clear_holds cell t =
      let h = both_left (both (holds_digit digits cell) (eqb (at digits cell) d)) _ t in
      (both_left _ _ h, eqb-true _ d (both_right (holds_digit digits cell) _ h))

  -- no peer of a cell that counts holds the digit: the cell would conflict with it
  pub clear_free : (a b : ℕ) → is_cell a ≡ true → is_cell b ≡ true → are_peers a b ≡ true → stands_clear digits d a ≡ true → at digits b ≡ d → ⊥
  unfolding stands_clear conflicts
  clear_free a b pa pb w s e =
      let x = clear_holds a s in
      not_both_ways (conflicts digits a)
      (both_true _ _ x.0
      ((peers_hold digits (at digits a) a pa).1 (record { peer = b; is_cell_lem = pb; are_peers_lem = w; holds = e ∙ sym x.1 })))
      (not-true _ (both_right (both (holds_digit digits a) (eqb (at digits a) d)) _ s))

  -- of the cells of a unit, how many count: at most one
  unfoldable pub times_clear : Kind → ℕ → ℕ
  times_clear kind number = count (λ cell. both (in_unit kind number cell) (stands_clear digits d cell)) 81 1

  pub once_clear : (kind : Kind) (number : ℕ) → times_clear kind number ≤ 1
  unfolding times_clear
  once_clear = unit_apart (stands_clear digits d) (λ a b pa pb w s t. clear_free a b pa pb w s (clear_holds b t).1)

  -- those cells, counted unit by unit
  pub unit_by_unit : (kind : Kind) → clear_cells digits d ≡ total (times_clear kind) 9 1
  unfolding clear_cells times_clear total in_unit
  unit_by_unit kind =
      omega (
        arith,
        count_by_value (stands_clear digits d) (unit_of kind) 10 81 1 (λ k l u. omega (arith, range_to _ (unit_in_range kind k (is_cell_lem k l (omega arith))))),
        count_zero (λ k. both (stands_clear digits d k) (eqb (unit_of kind k) 0)) 81 1
            (λ k l u. both_false_right (stands_clear digits d k) _ (ne_eqb (unit_of kind k) 0 (λ e. omega (arith, range_from _ (unit_in_range kind k (is_cell_lem k l (omega arith))))))),
        ap (λ (g : ℕ → ℕ). total g 9 1) (λ j n. count (λ k. both_comm (stands_clear digits d k) (in_unit kind n k) j) 81 1),
      )

  -- so never more than nine count
  pub at_most_nine : clear_cells digits d ≤ 9
  at_most_nine = omega (arith, unit_by_unit Row, total_le (times_clear Row) 9 1 (λ n l u. once_clear Row n))

  -- and nothing is cut off: what is left and those cells are nine
  pub left_exact : digits_left digits d + clear_cells digits d ≡ 9
  unfolding digits_left
  left_exact = omega (arith, at_most_nine)
