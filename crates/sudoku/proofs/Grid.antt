-- The laws of specs/Grid: cells and positions, what stands at a cell and is put there, and the peers of a cell.
-- Assumes nothing.
use Prim.Native.Nat.{ℕ, ◌+◌, ◌-◌, ◌*◌, ◌/◌, ◌%◌, ◌≤◌, ◌<◌}
use mathlib.Core.Path.{◌≡◌, refl, sym, ap, subst, ◌∙◌}
use mathlib.Core.Bool.{Bool, true, false, not}
use mathlib.Core.List.{List}
use native.Mathlib.Nat.{div-add-mod', mod-lt}
use native.Mathlib.Omega.{arith}
use borrow.Author.Tests.{leb-true, leb-false, le-leb, lt-leb, eq-eqb, eqb-true, eqb-false}
use lib.Dec.{leb, eqb}
use lib.ListN.{length, get_or, set, replicate, length-set}
use lib.Seq.{get_or-set_same, get_or-set_other, set-get_or, set-set}
use Rattle.sudoku.specs.Tests.{pick, both, either, bit, every, count, among}
use Rattle.sudoku.specs.Grid.{in_range, on_grid, cell_of, is_cell, row_of, column_of, box_index, is_peer_of, are_peers, peers_of, at, put}
use Rattle.sudoku.proofs.Walks.{by_test, both_true, both_left, both_right, both_false_right, pick_true, pick_false, every_at, length_among, among_at, among_has, among_ascends, Passes, Entry, same_test, not_both_ways}

-- ---- cells

pub cell_from : (c : ℕ) → is_cell c ≡ true → 1 ≤ c
unfolding is_cell
cell_from c p = leb-true 1 c (both_left (leb 1 c) (leb c 81) p)

pub cell_to : (c : ℕ) → is_cell c ≡ true → c ≤ 81
unfolding is_cell
cell_to c p = leb-true c 81 (both_right (leb 1 c) (leb c 81) p)

pub is_cell_lem : (c : ℕ) → 1 ≤ c → c ≤ 81 → is_cell c ≡ true
unfolding is_cell
is_cell_lem c l u = both_true (leb 1 c) (leb c 81) (le-leb 1 c l) (le-leb c 81 u)

pub cell_zero : is_cell 0 ≡ false
unfolding is_cell both
cell_zero = refl

pub cell_past : (c : ℕ) → 81 < c → is_cell c ≡ false
unfolding is_cell
cell_past c u = both_false_right (leb 1 c) (leb c 81) (lt-leb c 81 u)

-- ---- what stands at a cell

pub at_put : (l : List ℕ) (c x : ℕ) → length l ≡ 81 → is_cell c ≡ true → at (put l c x) c ≡ x
unfolding at put
at_put l c x n p = get_or-set_same l (c - 1) x 0 (omega (arith, cell_from c p, cell_to c p))

-- another cell stays as it is
pub at_put_other : (l : List ℕ) (c c' x : ℕ) → is_cell c ≡ true → is_cell c' ≡ true → (c ≡ c' → ⊥) → at (put l c x) c' ≡ at l c'
unfolding at put
at_put_other l c c' x p p' h =
    get_or-set_other l (c - 1) (c' - 1) x 0 (λ e. h (omega (arith, e, cell_from c p, cell_from c' p')))

pub put_put : (l : List ℕ) (c x y : ℕ) → put (put l c x) c y ≡ put l c y
unfolding put
put_put l c x y = set-set l (c - 1) x y

pub length_put : (l : List ℕ) (c x : ℕ) → length (put l c x) ≡ length l
unfolding put
length_put l c x = length-set l (c - 1) x

-- putting what stands there changes nothing
pub put_at_lem : (l : List ℕ) (c : ℕ) → put l c (at l c) ≡ l
unfolding put at
put_at_lem l c = set-get_or l (c - 1) 0

-- what stands at any place after a put, in a list of any length
pub at_put_within : (l : List ℕ) (c c' x : ℕ) → 1 ≤ c → c ≤ length l → 1 ≤ c' → at (put l c x) c' ≡ pick (eqb c c') x (at l c')
unfolding at put
at_put_within l c c' x f t f' =
    by_test (eqb c c')
    (λ e. ap (λ (k : ℕ). get_or (set l (c - 1) x) (k - 1) 0) (sym (eqb-true c c' e))
    ∙ get_or-set_same l (c - 1) x 0 (omega arith)
    ∙ sym (pick_true (eqb c c') x (get_or l (c' - 1) 0) e))
    (λ e. get_or-set_other l (c - 1) (c' - 1) x 0 (λ h. eqb-false c c' e (omega (arith, h)))
    ∙ sym (pick_false (eqb c c') x (get_or l (c' - 1) 0) e))

-- and of a list of 81 entries at any cell
pub at_put_by : (l : List ℕ) (c c' x : ℕ) → length l ≡ 81 → is_cell c ≡ true → is_cell c' ≡ true → at (put l c x) c' ≡ pick (eqb c c') x (at l c')
at_put_by l c c' x n p p' = at_put_within l c c' x (cell_from c p) (omega (arith, cell_to c p)) (cell_from c' p')

-- ---- rows and columns 1 to 9, and the cell at a position

pub range_from : (n : ℕ) → in_range n ≡ true → 1 ≤ n
unfolding in_range
range_from n p = leb-true 1 n (both_left (leb 1 n) (leb n 9) p)

pub range_to : (n : ℕ) → in_range n ≡ true → n ≤ 9
unfolding in_range
range_to n p = leb-true n 9 (both_right (leb 1 n) (leb n 9) p)

pub in_range_lem : (n : ℕ) → 1 ≤ n → n ≤ 9 → in_range n ≡ true
unfolding in_range
in_range_lem n l u = both_true (leb 1 n) (leb n 9) (le-leb 1 n l) (le-leb n 9 u)

pub range_zero : in_range 0 ≡ false
unfolding in_range both
range_zero = refl

pub grid_row : (row column : ℕ) → on_grid row column ≡ true → in_range row ≡ true
unfolding on_grid
grid_row row column p = both_left (in_range row) (in_range column) p

pub grid_column : (row column : ℕ) → on_grid row column ≡ true → in_range column ≡ true
unfolding on_grid
grid_column row column p = both_right (in_range row) (in_range column) p

pub on_grid_lem : (row column : ℕ) → in_range row ≡ true → in_range column ≡ true → on_grid row column ≡ true
unfolding on_grid
on_grid_lem row column p q = both_true (in_range row) (in_range column) p q

-- what a position on the grid tells of its row and column
pub record Bounds (row column : ℕ) : Type 0 where
  pub row_from : 1 ≤ row
  pub row_to : row ≤ 9
  pub column_from : 1 ≤ column
  pub column_to : column ≤ 9

pub grid_bounds : (row column : ℕ) → on_grid row column ≡ true → Bounds row column
grid_bounds row column p =
    record {
      row_from = range_from row (grid_row row column p);
      row_to = range_to row (grid_row row column p);
      column_from = range_from column (grid_column row column p);
      column_to = range_to column (grid_column row column p);
    }

-- off the grid
pub cell_off : (row column : ℕ) → on_grid row column ≡ false → cell_of row column ≡ 0
unfolding cell_of
cell_off row column p = pick_false (on_grid row column) (9 * (row - 1) + column) 0 p

-- on the grid
module _ (row column : ℕ) (p : on_grid row column ≡ true) where
  bounds : Bounds row column
  bounds = grid_bounds row column p

  pub cell_on : cell_of row column ≡ 9 * (row - 1) + column
  unfolding cell_of
  cell_on = pick_true (on_grid row column) (9 * (row - 1) + column) 0 p

  pub cell_of_is_cell : is_cell (cell_of row column) ≡ true
  cell_of_is_cell =
      is_cell_lem (cell_of row column) (omega (arith, cell_on, bounds))
      (omega (arith, cell_on, bounds))

  -- the number of the cell, less one, is nine for each row before its own, and one for each cell before it in its row
  less_one : cell_of row column - 1 ≡ 9 * (row - 1) + (column - 1)
  less_one = omega (arith, cell_on, bounds)

  pub row_of_cell : row_of (cell_of row column) ≡ row
  unfolding row_of
  row_of_cell =
      omega
      (arith, less_one, bounds, div-add-mod' (cell_of row column - 1) 9, mod-lt (cell_of row column - 1) {m = 9} (omega arith))

  pub column_of_cell : column_of (cell_of row column) ≡ column
  unfolding column_of
  column_of_cell =
      omega
      (arith, less_one, bounds, div-add-mod' (cell_of row column - 1) 9, mod-lt (cell_of row column - 1) {m = 9} (omega arith))

-- for every position
pub cell_le : (row column : ℕ) → cell_of row column ≤ 81
cell_le row column =
    by_test (on_grid row column) (λ p. cell_to (cell_of row column) (cell_of_is_cell row column p))
    (λ p. omega (arith, cell_off row column p))

-- a cell's row and column
module _ (cell : ℕ) (p : is_cell cell ≡ true) where
  pub row_in_range : in_range (row_of cell) ≡ true
  unfolding row_of
  row_in_range =
      in_range_lem ((cell - 1) / 9 + 1) (omega arith)
      (omega (arith, cell_to cell p, div-add-mod' (cell - 1) 9))

  pub column_in_range : in_range (column_of cell) ≡ true
  unfolding column_of
  column_in_range = in_range_lem ((cell - 1) % 9 + 1) (omega arith) (omega (arith, mod-lt (cell - 1) {m = 9} (omega arith)))

  pub cell_on_grid : on_grid (row_of cell) (column_of cell) ≡ true
  cell_on_grid = on_grid_lem (row_of cell) (column_of cell) row_in_range column_in_range

  pub cell_of_row_column : cell_of (row_of cell) (column_of cell) ≡ cell
  unfolding row_of column_of
  cell_of_row_column =
      omega (arith, cell_on (row_of cell) (column_of cell) cell_on_grid, cell_from cell p, div-add-mod' (cell - 1) 9)

-- ---- peers

-- each of the 81 cells has twenty peers: one test, computed
has_twenty : ℕ → Bool
has_twenty cell = eqb (count (are_peers cell) 81 1) 20

all_have_twenty : every has_twenty 81 1 ≡ true
unfolding has_twenty every count are_peers is_peer_of row_of column_of box_index both either bit
all_have_twenty = refl

pub eqb_comm : (a b : ℕ) → eqb a b ≡ eqb b a
eqb_comm a b =
    same_test (eqb a b) (eqb b a) (λ t. eq-eqb b a (sym (eqb-true a b t))) (λ t. eq-eqb a b (sym (eqb-true b a t)))

pub peer_of_comm : (row column row' column' : ℕ) → is_peer_of row column row' column' ≡ is_peer_of row' column' row column
unfolding is_peer_of
peer_of_comm row column row' column' =
    λ j.
    both
    (either (eqb_comm row row' j)
    (either (eqb_comm column column' j)
    (both (eqb_comm (box_index row) (box_index row') j) (eqb_comm (box_index column) (box_index column') j))))
    (not (both (eqb_comm row row' j) (eqb_comm column column' j)))

-- being a peer is mutual
pub peers_comm : (a b : ℕ) → are_peers a b ≡ are_peers b a
unfolding are_peers
peers_comm a b = peer_of_comm (row_of a) (column_of a) (row_of b) (column_of b)

-- no position is its own peer
pub peer_of_not_self : (row column : ℕ) → is_peer_of row column row column ≡ false
unfolding is_peer_of
peer_of_not_self row column =
    both_false_right _ (not (both (eqb row row) (eqb column column)))
    (ap not (both_true (eqb row row) (eqb column column) (eq-eqb row row refl) (eq-eqb column column refl)))

-- no cell is its own peer
pub peers_not_self : (a : ℕ) → are_peers a a ≡ false
unfolding are_peers
peers_not_self a = peer_of_not_self (row_of a) (column_of a)

pub peers_differ : (a b : ℕ) → are_peers a b ≡ true → a ≡ b → ⊥
peers_differ a b p e =
    not_both_ways (are_peers a a) (subst (λ (k : ℕ). are_peers a k ≡ true) (sym e) p) (peers_not_self a)

pub peers_on : (cell : ℕ) → is_cell cell ≡ true → peers_of cell ≡ among (are_peers cell) 81 1
unfolding peers_of
peers_on cell p = pick_true (is_cell cell) (among (are_peers cell) 81 1) (replicate 20 0) p

pub peers_off : (cell : ℕ) → is_cell cell ≡ false → peers_of cell ≡ replicate 20 0
unfolding peers_of
peers_off cell p = pick_false (is_cell cell) (among (are_peers cell) 81 1) (replicate 20 0) p

pub peers_length : (cell : ℕ) → length (peers_of cell) ≡ 20
unfolding has_twenty
peers_length cell =
    by_test (is_cell cell)
    (λ p. ap length (peers_on cell p)
    ∙ length_among (are_peers cell) 81 1
    ∙ eqb-true (count (are_peers cell) 81 1) 20 (every_at has_twenty 81 1 cell all_have_twenty (cell_from cell p) (omega (arith, cell_to cell p))))
    (λ p. ap length (peers_off cell p))

module _ (cell : ℕ) (p : is_cell cell ≡ true) where
  within : (i : ℕ) → i < 20 → i < length (among (are_peers cell) 81 1)
  within i h = omega (arith, ap length (peers_on cell p), peers_length cell)

  passes : (i : ℕ) → i < 20 → Passes (are_peers cell) 81 1 (get_or (peers_of cell) i 0)
  passes i h =
      subst (λ (l : List ℕ). Passes (are_peers cell) 81 1 (get_or l i 0)) (sym (peers_on cell p))
      (among_at (are_peers cell) 81 1 i (within i h))

  -- each entry is a cell
  pub peers_from : (i : ℕ) → i < 20 → 1 ≤ get_or (peers_of cell) i 0
  peers_from i h = (passes i h).from

  pub peers_to : (i : ℕ) → i < 20 → get_or (peers_of cell) i 0 ≤ 81
  peers_to i h = omega (arith, (passes i h).below)

  pub peers_cell : (i : ℕ) → i < 20 → is_cell (get_or (peers_of cell) i 0) ≡ true
  peers_cell i h = is_cell_lem (get_or (peers_of cell) i 0) (peers_from i h) (peers_to i h)

  -- and a peer
  pub peers_peer : (i : ℕ) → i < 20 → are_peers cell (get_or (peers_of cell) i 0) ≡ true
  peers_peer i h = (passes i h).is

  -- they ascend
  pub peers_ascend : (i j : ℕ) → i < j → j < 20 → get_or (peers_of cell) i 0 < get_or (peers_of cell) j 0
  peers_ascend i j h u =
      subst (λ (l : List ℕ). get_or l i 0 < get_or l j 0) (sym (peers_on cell p))
      (among_ascends (are_peers cell) 81 1 i j h (within j u))

  -- so no cell stands there twice, and the cell itself not at all
  pub peers_apart : (i j : ℕ) → i < 20 → j < 20 → (i ≡ j → ⊥) → get_or (peers_of cell) i 0 ≡ get_or (peers_of cell) j 0 → ⊥
  peers_apart i j h u n e =
      by_test (leb i j) (λ t. omega (arith, e, peers_ascend i j (omega (arith, leb-true i j t, n)) u))
      (λ t. omega (arith, e, peers_ascend j i (leb-false i j t) h))

-- the place of a peer among the twenty
pub record PeerAt (cell other : ℕ) : Type 0 where
  pub at : ℕ
  pub within : at < 20
  pub is : get_or (peers_of cell) at 0 ≡ other

-- each peer is an entry
pub peers_has : (cell other : ℕ) → is_cell cell ≡ true → is_cell other ≡ true → are_peers cell other ≡ true → PeerAt cell other
peers_has cell other p q h =
    found (among_has (are_peers cell) 81 1 other (cell_from other q) (omega (arith, cell_to other q)) h)
  where
    found : Entry (among (are_peers cell) 81 1) other → PeerAt cell other
    found w =
        record {
          at = w.at;
          within = omega (arith, w.within, ap length (peers_on cell p), peers_length cell);
          is = ap (λ (l : List ℕ). get_or l w.at 0) (peers_on cell p) ∙ w.is;
        }
