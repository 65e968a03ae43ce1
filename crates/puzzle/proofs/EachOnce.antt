-- The laws of specs/EachOnce: units are what peers share, and a grid is
-- full and consistent exactly when every unit holds each of 1 to 9 once.
-- A unit has nine cells, which antt counts; two of its cells are peers, and two peers stand in one unit of some kind.
-- Assumes nothing.
use Prim.Native.Nat.{ℕ, ◌+◌, ◌≤◌}
use mathlib.Core.Path.{◌≡◌, refl, sym, ap, ◌∙◌}
use mathlib.Core.Logic.{◌↔◌}
use mathlib.Core.Bool.{Bool, true, not}
use mathlib.Core.List.{List}
use native.Mathlib.Omega.{arith}
use borrow.Author.Tests.{eqb-true, eqb-false, eq-eqb, ne_eqb}
use lib.Dec.{eqb}
use Rattle.sudoku.specs.Tests.{both, either, bit, every, count}
use Rattle.sudoku.specs.Grid.{in_range, is_cell, row_of, column_of, box_index, is_peer_of, are_peers, at, cell_of}
use Rattle.sudoku.proofs.Walks.{by_test, both_true, both_left, both_right, both_false_right, either_left, either_right, either_cases, every_at, count_none, not_both_ways}
use Rattle.sudoku.proofs.Grid.{cell_from, cell_to, is_cell_lem, range_from, range_to, in_range_lem, row_in_range, column_in_range, cell_of_row_column, peers_differ}
use Rattle.sudoku.proofs.Counting.{count_zero, count_apart, count_alone, count_by_value, total, total_ones, ones_total}
use Rattle.puzzle.specs.Puzzle.{is_full, is_consistent}
use Rattle.puzzle.specs.EachOnce.{Kind, Row, Column, Box, unit_of, in_unit, times_held, EachOnce}
use Rattle.puzzle.proofs.Puzzle.{full_exactly, consistent_exactly, bit_true}

-- ---- the cells of a unit

-- nine: one test for each kind, computed
nine_each : (kind : Kind) → every (λ number. eqb (count (in_unit kind number) 81 1) 9) 9 1 ≡ true
unfolding every count bit both in_unit unit_of row_of column_of box_index
nine_each Row = refl
nine_each Column = refl
nine_each Box = refl

pub unit_nine : (kind : Kind) (number : ℕ) → in_range number ≡ true → count (in_unit kind number) 81 1 ≡ 9
unit_nine kind number p =
    eqb-true _ 9 (every_at (λ n. eqb (count (in_unit kind n) 81 1) 9) 9 1 number (nine_each kind) (range_from number p) (omega (arith, range_to number p)))

-- each cell stands in one of the nine
pub unit_in_range : (kind : Kind) (cell : ℕ) → is_cell cell ≡ true → in_range (unit_of kind cell) ≡ true
unfolding unit_of box_index
unit_in_range Row cell p = row_in_range cell p
unit_in_range Column cell p = column_in_range cell p
unit_in_range Box cell p =
    in_range_lem _ (omega arith) (omega (arith, range_to _ (row_in_range cell p), range_to _ (column_in_range cell p)))

module _ (a b : ℕ) (pa : is_cell a ≡ true) (pb : is_cell b ≡ true) where
  -- two cells at one position are one
  one_cell : both (eqb (row_of a) (row_of b)) (eqb (column_of a) (column_of b)) ≡ true → a ≡ b
  one_cell t =
      let r : row_of a ≡ row_of b = eqb-true _ _ (both_left _ _ t) in
      let c : column_of a ≡ column_of b = eqb-true _ _ (both_right (eqb (row_of a) (row_of b)) _ t) in
      sym (cell_of_row_column a pa) ∙ (λ j. cell_of (r j) (c j)) ∙ cell_of_row_column b pb

  -- a box number is that of a band and of a stack
  box_bands : unit_of Box a ≡ unit_of Box b → box_index (row_of a) ≡ box_index (row_of b)
  unfolding unit_of box_index
  box_bands e = omega (arith, e, range_to _ (column_in_range a pa), range_to _ (column_in_range b pb))

  box_stacks : unit_of Box a ≡ unit_of Box b → box_index (column_of a) ≡ box_index (column_of b)
  unfolding unit_of box_index
  box_stacks e = omega (arith, e, range_to _ (column_in_range a pa), range_to _ (column_in_range b pb))

  -- two cells of a unit are peers
  pub unit_peers : (kind : Kind) → unit_of kind a ≡ unit_of kind b → (a ≡ b → ⊥) → are_peers a b ≡ true
  unfolding are_peers is_peer_of unit_of
  unit_peers kind e h = both_true _ _ (shared kind e) (ap not (by_test _ (λ t. absurd (h (one_cell t))) (λ t. t)))
    where
      shared : (kind : Kind) → unit_of kind a ≡ unit_of kind b
          → either (eqb (row_of a) (row_of b)) (either (eqb (column_of a) (column_of b)) (both (eqb (box_index (row_of a)) (box_index (row_of b))) (eqb (box_index (column_of a)) (box_index (column_of b))))) ≡ true
      shared Row e = either_left _ _ (eq-eqb _ _ e)
      shared Column e = either_right _ _ (either_left _ _ (eq-eqb _ _ e))
      shared Box e = either_right _ _ (either_right _ _ (both_true _ _ (eq-eqb _ _ (box_bands e)) (eq-eqb _ _ (box_stacks e))))

-- two peers stand in one unit
pub record Shared (a b : ℕ) : Type 0 where
  pub kind : Kind
  pub same : unit_of kind a ≡ unit_of kind b

pub peers_unit : (a b : ℕ) → are_peers a b ≡ true → Shared a b
unfolding are_peers is_peer_of unit_of
peers_unit a b t =
    either_cases _ _ (both_left _ _ t) (λ s. record { kind = Row; same = eqb-true _ _ s })
    (λ r. either_cases _ _ r (λ s. record { kind = Column; same = eqb-true _ _ s })
    (λ s.
    let band : box_index (row_of a) ≡ box_index (row_of b) = eqb-true _ _ (both_left _ _ s) in
    let stack : box_index (column_of a) ≡ box_index (column_of b) = eqb-true _ _ (both_right (eqb (box_index (row_of a)) (box_index (row_of b))) _ s) in
    record { kind = Box; same = omega arith }))

-- ---- a test of cells

-- where no two peers pass it, at most one cell of a unit does
pub unit_apart : (f : ℕ → Bool) → ((a b : ℕ) → is_cell a ≡ true → is_cell b ≡ true → are_peers a b ≡ true → f a ≡ true → f b ≡ true → ⊥)
    → (kind : Kind) (number : ℕ) → count (λ cell. both (in_unit kind number cell) (f cell)) 81 1 ≤ 1
unfolding in_unit
unit_apart f h kind number =
    count_apart (λ cell. both (in_unit kind number cell) (f cell)) 81 1
    (λ a b l m u s t.
    let pa : is_cell a ≡ true = is_cell_lem a l (omega arith) in
    let pb : is_cell b ≡ true = is_cell_lem b (omega arith) (omega arith) in
    h a b pa pb (unit_peers a b pa pb kind (eqb-true _ number (both_left _ _ s) ∙ sym (eqb-true _ number (both_left _ _ t))) (λ e. omega arith))
    (both_right (in_unit kind number a) (f a) s) (both_right (in_unit kind number b) (f b) t))

-- where each unit holds a digit once, no two peers hold it: they would be two in the unit that they share
pub held_apart : (digits : List ℕ) (d : ℕ) → ((kind : Kind) (number : ℕ) → in_range number ≡ true → times_held digits kind number d ≡ 1)
    → (a b : ℕ) → is_cell a ≡ true → is_cell b ≡ true → are_peers a b ≡ true → at digits a ≡ d → at digits b ≡ d → ⊥
unfolding times_held in_unit
held_apart digits d once a b pa pb w ea eb =
    let u = peers_unit a b w in
    peers_differ a b w
    (count_alone (λ k. both (in_unit u.kind (unit_of u.kind a) k) (eqb (at digits k) d)) 81 1 a b
    (omega (arith, once u.kind (unit_of u.kind a) (unit_in_range u.kind a pa)))
    (cell_from a pa) (omega (arith, cell_to a pa)) (cell_from b pb) (omega (arith, cell_to b pb))
    (both_true _ _ (eq-eqb (unit_of u.kind a) _ refl) (eq-eqb _ d ea))
    (both_true _ _ (eq-eqb (unit_of u.kind b) _ (sym u.same)) (eq-eqb _ d eb)))

-- ---- a grid

module _ (digits : List ℕ) (small : (cell : ℕ) → is_cell cell ≡ true → at digits cell ≤ 9) where
  -- the nine cells of a unit, counted digit by digit: those without a digit, and those of each digit
  pub digit_by_digit : (kind : Kind) (number : ℕ) → in_range number ≡ true → times_held digits kind number 0 + total (times_held digits kind number) 9 1 ≡ 9
  unfolding times_held total
  digit_by_digit kind number p =
      sym (count_by_value (in_unit kind number) (at digits) 10 81 1 (λ k l u. omega (arith, small k (is_cell_lem k l (omega arith)))))
      ∙ unit_nine kind number p

  -- full and consistent: each digit stands there once
  once_of : is_full digits ≡ true → is_consistent digits ≡ true → EachOnce digits
  unfolding EachOnce times_held
  once_of f c kind number d p q =
      ones_total (times_held digits kind number) 9 1 d (λ e l u. unit_apart (λ cell. eqb (at digits cell) e) (apart e l) kind number)
      (omega (arith, digit_by_digit kind number p, none_empty)) (range_from d q) (omega (arith, range_to d q))
    where
      none_empty : times_held digits kind number 0 ≡ 0
      none_empty =
          count_zero (λ cell. both (in_unit kind number cell) (eqb (at digits cell) 0)) 81 1
          (λ k l u. both_false_right (in_unit kind number k) _ (ne_eqb (at digits k) 0 ((full_exactly digits).0 f k (is_cell_lem k l (omega arith)))))

      apart : (e : ℕ) → 1 ≤ e → (a b : ℕ) → is_cell a ≡ true → is_cell b ≡ true → are_peers a b ≡ true → eqb (at digits a) e ≡ true → eqb (at digits b) e ≡ true → ⊥
      apart e l a b pa pb w s t =
          omega (arith, eqb-true _ e s, (consistent_exactly digits).0 c a b pa pb w (eqb-true _ e s ∙ sym (eqb-true _ e t)))

  module _ (once : EachOnce digits) where
    -- each digit stands in its row once: no cell is empty
    full_of : is_full digits ≡ true
    unfolding EachOnce times_held in_unit
    full_of =
        (full_exactly digits).1
        (λ cell p e.
        let r : in_range (unit_of Row cell) ≡ true = unit_in_range Row cell p in
        not_both_ways _ (both_true _ _ (eq-eqb (unit_of Row cell) _ refl) (eq-eqb (at digits cell) 0 e))
        (count_none (λ k. both (in_unit Row (unit_of Row cell) k) (eqb (at digits k) 0)) 81 1 cell
        (omega (
          arith,
          digit_by_digit Row (unit_of Row cell) r,
          total_ones (times_held digits Row (unit_of Row cell)) 9 1 (λ d l u. once Row (unit_of Row cell) d r (in_range_lem d l (omega arith))),
        ))
        (cell_from cell p) (omega (arith, cell_to cell p))))

    -- no two peers hold one digit
    consistent_of : is_consistent digits ≡ true
    unfolding EachOnce
    consistent_of =
        (consistent_exactly digits).1
        (λ a b pa pb w e. by_test (eqb (at digits a) 0) (λ z. eqb-true (at digits a) 0 z)
        (λ z. absurd
        (held_apart digits (at digits a)
        (λ kind number r. once kind number (at digits a) r (in_range_lem (at digits a) (omega (arith, eqb-false (at digits a) 0 z)) (small a pa)))
        a b pa pb w refl (sym e))))

  -- full and consistent: every row, column and box holds each of 1 to 9 once
  pub each_once : (both (is_full digits) (is_consistent digits) ≡ true) ↔ EachOnce digits
  each_once = (
    (λ t. once_of (both_left (is_full digits) (is_consistent digits) t) (both_right (is_full digits) (is_consistent digits) t)),
    (λ w. both_true (is_full digits) (is_consistent digits) (full_of w) (consistent_of w)),
  )

  -- the same of a status that says whether the grid is full and consistent
  pub solved_iff : (solved : ℕ) → solved ≡ bit (both (is_full digits) (is_consistent digits)) → (solved ≡ 1) ↔ EachOnce digits
  unfolding bit
  solved_iff solved e = ((λ t. each_once.0 (bit_true _ (sym e ∙ t))), (λ w. e ∙ ap bit (each_once.1 w)))
