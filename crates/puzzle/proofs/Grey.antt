-- When a key is grey: none is left of its digit exactly where each row, column and box holds it once; and all nine keys
-- are grey exactly where each unit holds each digit once.
-- Assumes nothing.
use Prim.Native.Nat.{ℕ, ◌+◌, ◌-◌}
use mathlib.Core.Path.{◌≡◌, sym, ap, ◌∙◌}
use mathlib.Core.Logic.{◌↔◌}
use mathlib.Core.Bool.{true, false, not}
use mathlib.Core.List.{List}
use native.Mathlib.Omega.{arith}
use borrow.Author.Tests.{eqb-true, eq-eqb}
use lib.ListN.{get_or, replicate}
use Rattle.std.proofs.lemmas.List.{same_lists, get_or-replicate}
use Rattle.sudoku.specs.Tests.{both}
use Rattle.sudoku.specs.Grid.{in_range, is_cell, peers_of, at}
use Rattle.sudoku.proofs.Walks.{by_test, same_test, not_both_ways, both_true, both_left, both_right, count_same}
use Rattle.sudoku.proofs.Grid.{is_cell_lem, range_from, range_to, in_range_lem}
use Rattle.sudoku.proofs.Counting.{count_zero, total_ones, ones_total}
use Rattle.sudoku.proofs.Listed.{length_listed, listed_at}
use Rattle.puzzle.specs.Puzzle.{is_held, stands_clear, digits_left, keypad}
use Rattle.puzzle.specs.EachOnce.{Kind, Row, in_unit, times_held, EachOnce}
use Rattle.puzzle.proofs.Puzzle.{PeerHolds, peers_hold}
use Rattle.puzzle.proofs.EachOnce.{unit_peers, held_apart}
use Rattle.puzzle.proofs.Clear.{clear_is, clear_holds, clear_free, times_clear, once_clear, unit_by_unit, left_exact}

module _ (digits : List ℕ) (d : ℕ) (h : d ≡ 0 → ⊥) where
  -- a cell that holds the digit counts where no peer holds it too
  held_clear : (cell : ℕ) → is_cell cell ≡ true → at digits cell ≡ d → (PeerHolds digits d cell → ⊥) → stands_clear digits d cell ≡ true
  held_clear cell p e apart =
      clear_is digits d cell h
      ∙ both_true _ _ (eq-eqb _ d e)
      (by_test (is_held digits d (peers_of cell)) (λ t. absurd (apart ((peers_hold digits d cell p).0 t))) (λ f. ap not f))

  -- a unit whose cells that hold the digit all count
  all_clear : (kind : Kind) (number : ℕ) → ((cell : ℕ) → is_cell cell ≡ true → in_unit kind number cell ≡ true → at digits cell ≡ d → stands_clear digits d cell ≡ true)
      → times_held digits kind number d ≡ times_clear digits d kind number
  unfolding times_held times_clear
  all_clear kind number clear =
      count_same _ _ 81 1
      (λ k l u. same_test _ _
      (λ t. both_true _ _ (both_left _ _ t) (clear k (is_cell_lem k l (omega arith)) (both_left _ _ t) (eqb-true _ d (both_right (in_unit kind number k) _ t))))
      (λ t. both_true _ _ (both_left _ _ t) (eq-eqb _ d (clear_holds digits d k (both_right (in_unit kind number k) _ t)).1)))

  -- a unit with one cell that counts holds the digit nowhere else: where it did, that cell would not count
  clear_alone : (kind : Kind) (number : ℕ) → times_clear digits d kind number ≡ 1 → times_held digits kind number d ≡ 1
  unfolding times_clear in_unit
  clear_alone kind number one =
      all_clear kind number
      (λ cell p i e. by_test (stands_clear digits d cell) (λ t. t)
      (λ f. absurd (omega (
        arith,
        one,
        count_zero (λ k. both (in_unit kind number k) (stands_clear digits d k)) 81 1
            (λ k l u. by_test (both (in_unit kind number k) (stands_clear digits d k))
            (λ t. absurd (other cell p i e f k (is_cell_lem k l (omega arith)) (both_left _ _ t) (both_right (in_unit kind number k) _ t)))
            (λ z. z)),
      ))))
      ∙ one
    where
      other : (cell : ℕ) → is_cell cell ≡ true → in_unit kind number cell ≡ true → at digits cell ≡ d → stands_clear digits d cell ≡ false
          → (k : ℕ) → is_cell k ≡ true → in_unit kind number k ≡ true → stands_clear digits d k ≡ true → ⊥
      other cell p i e f k q j t =
          clear_free digits d k cell q p
          (unit_peers k cell q p kind (eqb-true _ number j ∙ sym (eqb-true _ number i)) (λ w. not_both_ways (stands_clear digits d k) t (ap (stands_clear digits d) w ∙ f)))
          t e

  pub grey : (digits_left digits d ≡ 0) ↔ ((kind : Kind) (number : ℕ) → in_range number ≡ true → times_held digits kind number d ≡ 1)
  grey = (
    (λ e kind number p. clear_alone kind number
        (ones_total (times_clear digits d kind) 9 1 number (λ n l u. once_clear digits d kind n)
        (omega (arith, left_exact digits d, unit_by_unit digits d kind, e)) (range_from number p) (omega (arith, range_to number p)))),
    (λ once. omega (
      arith,
      left_exact digits d,
      unit_by_unit digits d Row,
      total_ones (times_clear digits d Row) 9 1
          (λ n l u. sym (all_clear Row n (λ cell p i e. held_clear cell p e (λ w. held_apart digits d once cell w.peer p w.is_cell_lem w.are_peers_lem e w.holds))) ∙ once Row n (in_range_lem n l (omega arith))),
    )),
  )

-- all nine keys
pub all_grey : (digits : List ℕ) → (keypad digits ≡ replicate 9 0) ↔ EachOnce digits
unfolding keypad EachOnce
all_grey digits = (
  (λ e kind number d p q. (grey digits d (λ z. omega (arith, range_from d q, z))).0
      (ap (digits_left digits) {x = d} {y = 1 + (d - 1)} (omega (arith, range_from d q))
      ∙ sym (listed_at (digits_left digits) 9 1 (d - 1) 0 (omega (arith, range_from d q, range_to d q)))
      ∙ ap (λ (l : List ℕ). get_or l (d - 1) 0) e
      ∙ get_or-replicate 9 (d - 1) 0 0 (omega (arith, range_from d q, range_to d q)))
      kind number p),
  (λ once. same_lists _ _ (length_listed (digits_left digits) 9 1)
      (λ k x l. listed_at (digits_left digits) 9 1 k x (omega (arith, length_listed (digits_left digits) 9 1))
      ∙ (grey digits (1 + k) (λ z. omega (arith, z))).1 (λ kind number p. once kind number (1 + k) p (in_range_lem (1 + k) (omega arith) (omega (arith, length_listed (digits_left digits) 9 1))))
      ∙ sym (get_or-replicate 9 k 0 x (omega (arith, length_listed (digits_left digits) 9 1))))),
)
