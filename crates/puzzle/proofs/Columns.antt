-- The laws of specs/Code/Units: no digit stands twice in a column, a row or a box exactly where no cell conflicts.
-- Two peers stand in one column of the grid, or of the grid in one of the two orders,
-- and two cells of such a column are peers: antt works both out over all cells.
-- Assumes nothing.
use Prim.Native.Nat.{ℕ, ◌+◌, ◌-◌, ◌*◌, ◌/◌, ◌%◌, ◌≤◌, ◌<◌}
use mathlib.Core.Path.{◌≡◌, refl, sym, ap, ◌∙◌}
use mathlib.Core.Bool.{Bool, true, not}
use mathlib.Core.List.{List}
use native.Mathlib.Nat.{div-add-mod}
use native.Mathlib.Omega.{arith}
use borrow.Author.Tests.{eqb-true, eqb-false, ne_eqb, ltb-true, ltb-false, not-true}
use lib.Dec.{eqb, ltb}
use lib.ListN.{get_or}
use Rattle.sudoku.specs.Tests.{both, either, every}
use Rattle.sudoku.specs.Grid.{is_cell, row_of, column_of, box_index, is_peer_of, are_peers, at}
use Rattle.sudoku.proofs.Walks.{by_test, same_test, both_true, both_left, both_right, both_first, both_second, both_assoc, either_left, either_right, either_cases, not_both_ways, not_is_true, every_at, every_of, every_step, every_all}
use Rattle.sudoku.proofs.Grid.{cell_from, cell_to, is_cell_lem}
use Rattle.sudoku.proofs.Listed.{listed_from, listed_agree}
use Rattle.puzzle.specs.Puzzle.{is_consistent}
use Rattle.puzzle.specs.Code.Units.{step_clear, columns_clear, reordered, row_order, box_order}
use Rattle.puzzle.proofs.Puzzle.{consistent_exactly}

-- ---- a loop without early exit

-- before it nothing was found
pub clear_starts : (f : ℕ → Bool) (e : ℕ) → every f e 0 ≡ both true (every f (e - 0) 0)
clear_starts f e = sym (both_first true (every f (e - 0) 0) refl ∙ ap (λ (n : ℕ). every f n 0) (omega arith))

-- what a turn does: `clear` is what was found before, r with this turn
pub clear_more : (f : ℕ → Bool) (all clear r : Bool) (e i : ℕ) → i < e → r ≡ both clear (f i) → all ≡ both clear (every f (e - i) i)
    → all ≡ both r (every f (e - (i + 1)) (i + 1))
clear_more f all clear r e i h p w =
    w
    ∙ ap (both clear) (every_step f e i h)
    ∙ sym (both_assoc clear (f i) (every f (e - (i + 1)) (i + 1)))
    ∙ ap (λ (t : Bool). both t (every f (e - (i + 1)) (i + 1))) (sym p)

-- at the end nothing is left
pub clear_all : (f : ℕ → Bool) (all clear : Bool) (e i : ℕ) → e ≤ i → all ≡ both clear (every f (e - i) i) → clear ≡ all
clear_all f all clear e i h w = sym (w ∙ ap (both clear) (every_all f e i h) ∙ both_second clear true refl)

-- ---- what antt works out

-- the grid as it stands
unfoldable own_order : ℕ → ℕ
own_order i = i

-- an order that stays in the grid and, done twice, changes nothing: so it also says where each entry went
unfoldable turns_back : (ℕ → ℕ) → Bool
turns_back order = every (λ i. both (ltb (order i) 81) (eqb (order (order i)) i)) 81 0

-- two cells stand at two places of one column
unfoldable in_column : (ℕ → ℕ) → ℕ → ℕ → Bool
in_column order a b = both (eqb (order (a - 1) % 9) (order (b - 1) % 9)) (not (eqb (order (a - 1)) (order (b - 1))))

-- two cells that stand in one column are peers
unfoldable column_peers : (ℕ → ℕ) → Bool
column_peers order = every (λ k. every (λ i. are_peers (order i + 1) (order (i + 9 * k) + 1)) (81 - 9 * k) 0) 8 1

-- two peers stand in one column, in one order or another
unfoldable peers_in_column : ℕ → ℕ → Bool
peers_in_column a b = either (not (are_peers a b)) (either (in_column own_order a b) (either (in_column row_order a b) (in_column box_order a b)))

turning : (turns_back own_order ≡ true) × (turns_back row_order ≡ true) × (turns_back box_order ≡ true)
unfolding turns_back own_order row_order box_order every both
turning = (refl, refl, refl)

columns_peers : (column_peers own_order ≡ true) × (column_peers row_order ≡ true) × (column_peers box_order ≡ true)
unfolding column_peers own_order row_order box_order every both either are_peers is_peer_of row_of column_of box_index
columns_peers = (refl, refl, refl)

peers_columns : every (λ a. every (peers_in_column a) 81 1) 81 1 ≡ true
unfolding peers_in_column in_column own_order row_order box_order every both either are_peers is_peer_of row_of column_of box_index
peers_columns = refl

peers_found : (a b : ℕ) → is_cell a ≡ true → is_cell b ≡ true → are_peers a b ≡ true
    → either (in_column own_order a b) (either (in_column row_order a b) (in_column box_order a b)) ≡ true
unfolding peers_in_column
peers_found a b p q w =
    either_cases (not (are_peers a b)) _
    (every_at (peers_in_column a) 81 1 b
    (every_at (λ m. every (peers_in_column m) 81 1) 81 1 a peers_columns (cell_from a p) (omega (arith, cell_to a p)))
    (cell_from b q) (omega (arith, cell_to b q)))
    (λ z. absurd (not_both_ways (are_peers a b) w (not-true _ z)))
    (λ z. z)

-- ---- a column

module _ (grid : List ℕ) (h : columns_clear grid ≡ true) where
  step_apart : (k i : ℕ) → 1 ≤ k → k ≤ 8 → i + 9 * k < 81 → get_or grid i 0 ≡ get_or grid (i + 9 * k) 0 → get_or grid i 0 ≡ 0
  unfolding columns_clear step_clear
  step_apart k i a b u e =
      either_cases (eqb (get_or grid i 0) 0) (not (eqb (get_or grid i 0) (get_or grid (i + 9 * k) 0)))
      (every_at (λ j. either (eqb (get_or grid j 0) 0) (not (eqb (get_or grid j 0) (get_or grid (j + 9 * k) 0)))) (81 - 9 * k) 0 i
      (every_at (λ m. step_clear grid (9 * m)) 8 1 k h a (omega arith)) (omega arith) (omega arith))
      (λ t. eqb-true (get_or grid i 0) 0 t)
      (λ t. absurd (eqb-false (get_or grid i 0) (get_or grid (i + 9 * k) 0) (not-true _ t) e))

  below_apart : (p q : ℕ) → p < q → q < 81 → p % 9 ≡ q % 9 → get_or grid p 0 ≡ get_or grid q 0 → get_or grid p 0 ≡ 0
  below_apart p q u v w e =
      let far : q ≡ p + 9 * (q / 9 - p / 9) = omega (arith, div-add-mod p 9, div-add-mod q 9, w) in
      step_apart (q / 9 - p / 9) p (omega (arith, far)) (omega (arith, far)) (omega (arith, far)) (e ∙ ap (λ (j : ℕ). get_or grid j 0) far)

  column_apart : (p q : ℕ) → p < 81 → q < 81 → p % 9 ≡ q % 9 → (p ≡ q → ⊥) → get_or grid p 0 ≡ get_or grid q 0 → get_or grid p 0 ≡ 0
  column_apart p q u v w n e =
      by_test (ltb p q) (λ t. below_apart p q (ltb-true p q t) v w e)
      (λ t. e ∙ below_apart q p (omega (arith, ltb-false p q t, n)) u (sym w) (sym e))

-- ---- the cells of a grid whose entries stand in an order

module _ (digits grid : List ℕ) (order : ℕ → ℕ) (same : (i : ℕ) → i < 81 → get_or grid i 0 ≡ at digits (order i + 1)) (t : turns_back order ≡ true) where
  order_below : (i : ℕ) → i < 81 → order i < 81
  unfolding turns_back
  order_below i u = ltb-true (order i) 81 (both_left _ _ (every_at (λ j. both (ltb (order j) 81) (eqb (order (order j)) j)) 81 0 i t (omega arith) (omega arith)))

  order_back : (i : ℕ) → i < 81 → order (order i) ≡ i
  unfolding turns_back
  order_back i u =
      eqb-true (order (order i)) i
      (both_right (ltb (order i) 81) _ (every_at (λ j. both (ltb (order j) 81) (eqb (order (order j)) j)) 81 0 i t (omega arith) (omega arith)))

  -- where a cell's entry stands
  cell_stands : (a : ℕ) → is_cell a ≡ true → get_or grid (order (a - 1)) 0 ≡ at digits a
  cell_stands a p =
      let u : a - 1 < 81 = omega (arith, cell_from a p, cell_to a p) in
      same (order (a - 1)) (order_below (a - 1) u)
      ∙ ap (at digits) (ap (λ (j : ℕ). j + 1) (order_back (a - 1) u) ∙ omega (arith, cell_from a p))

  cells_apart : columns_clear grid ≡ true → (a b : ℕ) → is_cell a ≡ true → is_cell b ≡ true → in_column order a b ≡ true → at digits a ≡ at digits b → at digits a ≡ 0
  unfolding in_column
  cells_apart h a b p q w e =
      sym (cell_stands a p)
      ∙ column_apart grid h (order (a - 1)) (order (b - 1))
      (order_below (a - 1) (omega (arith, cell_from a p, cell_to a p)))
      (order_below (b - 1) (omega (arith, cell_from b q, cell_to b q)))
      (eqb-true _ _ (both_left _ _ w))
      (eqb-false _ _ (not-true _ (both_right (eqb (order (a - 1) % 9) (order (b - 1) % 9)) _ w)))
      (cell_stands a p ∙ e ∙ sym (cell_stands b q))

  columns_clear_lem : column_peers order ≡ true
      → ((a b : ℕ) → is_cell a ≡ true → is_cell b ≡ true → are_peers a b ≡ true → at digits a ≡ at digits b → at digits a ≡ 0)
      → columns_clear grid ≡ true
  unfolding columns_clear step_clear column_peers
  columns_clear_lem w h =
      every_of (λ k. step_clear grid (9 * k)) 8 1
      (λ k a b. every_of (λ i. either (eqb (get_or grid i 0) 0) (not (eqb (get_or grid i 0) (get_or grid (i + 9 * k) 0)))) (81 - 9 * k) 0
      (λ i c d. clear k i a b d))
    where
      clear : (k i : ℕ) → 1 ≤ k → k < 1 + 8 → i < 0 + (81 - 9 * k) → either (eqb (get_or grid i 0) 0) (not (eqb (get_or grid i 0) (get_or grid (i + 9 * k) 0))) ≡ true
      clear k i a b d =
          let u : i < 81 = omega arith in
          let v : i + 9 * k < 81 = omega arith in
          by_test (eqb (get_or grid i 0) 0) (λ z. either_left _ _ z)
          (λ z. either_right (eqb (get_or grid i 0) 0) _
          (not_is_true _ (ne_eqb (get_or grid i 0) (get_or grid (i + 9 * k) 0)
          (λ e. eqb-false (get_or grid i 0) 0 z
          (same i u
          ∙ h (order i + 1) (order (i + 9 * k) + 1)
          (is_cell_lem _ (omega arith) (omega (arith, order_below i u)))
          (is_cell_lem _ (omega arith) (omega (arith, order_below (i + 9 * k) v)))
          (every_at (λ j. are_peers (order j + 1) (order (j + 9 * k) + 1)) (81 - 9 * k) 0 i
          (every_at (λ m. every (λ j. are_peers (order j + 1) (order (j + 9 * m) + 1)) (81 - 9 * m) 0) 8 1 k w a b) (omega arith) d)
          (sym (same i u) ∙ e ∙ same (i + 9 * k) v))))))

-- ---- the three orders

module _ (digits : List ℕ) where
  own_same : (i : ℕ) → i < 81 → get_or digits i 0 ≡ at digits (own_order i + 1)
  unfolding at own_order
  own_same i u = ap (λ (j : ℕ). get_or digits j 0) (omega arith)

  order_same : (order : ℕ → ℕ) (i : ℕ) → i < 81 → get_or (reordered order digits) i 0 ≡ at digits (order i + 1)
  unfolding at reordered
  order_same order i u =
      listed_from (λ j. get_or digits (order j) 0) 81 i 0 u
      ∙ ap (λ (j : ℕ). get_or digits j 0) (omega arith)

  -- no unit holds a digit twice exactly where no cell conflicts
  pub units_clear : both (columns_clear digits) (both (columns_clear (reordered row_order digits)) (columns_clear (reordered box_order digits))) ≡ is_consistent digits
  units_clear =
      same_test _ (is_consistent digits)
      (λ t. (consistent_exactly digits).1
      (apart (both_left _ _ t) (both_left _ _ (both_right (columns_clear digits) _ t))
      (both_right (columns_clear (reordered row_order digits)) _ (both_right (columns_clear digits) _ t))))
      (λ t.
      let h = (consistent_exactly digits).0 t in
      both_true _ _ (columns_clear_lem digits digits own_order own_same turning.0 columns_peers.0 h)
      (both_true _ _ (columns_clear_lem digits (reordered row_order digits) row_order (order_same row_order) turning.1 columns_peers.1 h)
      (columns_clear_lem digits (reordered box_order digits) box_order (order_same box_order) turning.2 columns_peers.2 h)))
    where
      apart : columns_clear digits ≡ true → columns_clear (reordered row_order digits) ≡ true → columns_clear (reordered box_order digits) ≡ true
          → (a b : ℕ) → is_cell a ≡ true → is_cell b ≡ true → are_peers a b ≡ true → at digits a ≡ at digits b → at digits a ≡ 0
      apart c r x a b p q w e = met (peers_found a b p q w)
        where
          met : either (in_column own_order a b) (either (in_column row_order a b) (in_column box_order a b)) ≡ true → at digits a ≡ 0
          met z =
              either_cases (in_column own_order a b) _ z (λ s. cells_apart digits digits own_order own_same turning.0 c a b p q s e)
              (λ y. either_cases (in_column row_order a b) _ y
              (λ s. cells_apart digits (reordered row_order digits) row_order (order_same row_order) turning.1 r a b p q s e)
              (λ s. cells_apart digits (reordered box_order digits) box_order (order_same box_order) turning.2 x a b p q s e))

-- ---- the tables

-- a table that lists an order gives the grid in that order
pub reordered_same : (order other : ℕ → ℕ) (digits : List ℕ) → every (λ i. eqb (order i) (other i)) 81 0 ≡ true → reordered order digits ≡ reordered other digits
unfolding reordered
reordered_same order other digits t =
    listed_agree (λ i. get_or digits (order i) 0) (λ i. get_or digits (other i) 0) 81 0 0
    (λ k u. ap (λ (j : ℕ). get_or digits j 0)
    (eqb-true (order (0 + k)) (other (0 + k)) (every_at (λ j. eqb (order j) (other j)) 81 0 (0 + k) t (omega arith) (omega arith))))
