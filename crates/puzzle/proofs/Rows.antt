-- The laws of nine rows of nine: what they hold at a cell and at a position
-- on the grid; and read from 81 bytes and laid out again, they are those bytes.
-- Assumes nothing.
use Prim.Native.Nat.{ℕ, ◌+◌, ◌-◌, ◌*◌, ◌/◌, ◌%◌, ◌≤◌, ◌<◌}
use mathlib.Core.Path.{◌≡◌, sym, ap, ◌∙◌}
use mathlib.Core.Bool.{true}
use mathlib.Core.List.{List, []}
use native.Mathlib.Nat.{div-add-mod, mod-lt}
use native.Mathlib.Omega.{arith}
use lib.ListN.{length, get_or}
use lib.Seq.{ext_get_or}
use Rattle.sudoku.specs.Grid.{on_grid, cell_of, row_of, column_of, at}
use Rattle.sudoku.proofs.Listed.{length_listed, listed_from}
use Rattle.sudoku.proofs.Grid.{cell_le, row_of_cell, column_of_cell}
use Rattle.puzzle.specs.Code.Rows.{row_at, rows_of, entry_at, flat}

-- the digit at a cell
pub flat_cell : (rows : List (List ℕ)) (cell : ℕ) → cell ≤ 81 → at (flat rows) cell ≡ get_or (get_or rows ((cell - 1) / 9) []) ((cell - 1) % 9) 0
unfolding at flat entry_at
flat_cell rows cell h = listed_from (entry_at rows) 81 (cell - 1) 0 (omega arith)

-- the same by the index of the cell
pub flat_at : (rows : List (List ℕ)) (i : ℕ) → i < 81 → at (flat rows) (i + 1) ≡ get_or (get_or rows (i / 9) []) (i % 9) 0
flat_at rows i h =
    flat_cell rows (i + 1) (omega arith) ∙ ap (λ (k : ℕ). get_or (get_or rows (k / 9) []) (k % 9) 0) {x = i + 1 - 1} {y = i} (omega arith)

-- the digit at a position
module _ (rows : List (List ℕ)) (row column : ℕ) (p : on_grid row column ≡ true) where
  row_index : (cell_of row column - 1) / 9 ≡ row - 1
  unfolding row_of
  row_index = omega (arith, row_of_cell row column p)

  column_index : (cell_of row column - 1) % 9 ≡ column - 1
  unfolding column_of
  column_index = omega (arith, column_of_cell row column p)

  pub flat_position : at (flat rows) (cell_of row column) ≡ get_or (get_or rows (row - 1) []) (column - 1) 0
  flat_position =
      flat_cell rows (cell_of row column) (cell_le row column) ∙ (λ i. get_or (get_or rows (row_index i) []) (column_index i) 0)

-- ---- rows read from bytes

length_flat : (rows : List (List ℕ)) → length (flat rows) ≡ 81
unfolding flat
length_flat rows = length_listed (entry_at rows) 81 0

-- row r, and its entry
row_of_rows : (s : List ℕ) (r : ℕ) → r < 9 → get_or (rows_of s) r [] ≡ row_at s r
unfolding rows_of
row_of_rows s r h = listed_from (row_at s) 9 r [] h

entry_of_row : (s : List ℕ) (r i : ℕ) → i < 9 → get_or (row_at s r) i 0 ≡ get_or s (9 * r + i) 0
unfolding row_at
entry_of_row s r i h = listed_from (λ k. get_or s (9 * r + k) 0) 9 i 0 h

flat_rows_at : (s : List ℕ) (i : ℕ) → i < 81 → get_or (flat (rows_of s)) i 0 ≡ get_or s i 0
unfolding flat entry_at
flat_rows_at s i h =
    listed_from (entry_at (rows_of s)) 81 i 0 h
    ∙ ap (λ (row : List ℕ). get_or row (i % 9) 0) (row_of_rows s (i / 9) (omega (arith, div-add-mod i 9)))
    ∙ entry_of_row s (i / 9) (i % 9) (mod-lt i {m = 9} (omega arith))
    ∙ ap (λ (k : ℕ). get_or s k 0) (div-add-mod i 9)

flat_rows : (s : List ℕ) → length s ≡ 81 → flat (rows_of s) ≡ s
flat_rows s n =
    ext_get_or 0 (flat (rows_of s)) s (length_flat (rows_of s) ∙ sym n) (λ i h. flat_rows_at s i (omega (arith, length_flat (rows_of s))))

-- what is said of the rows is said of the bytes
pub laid_out : (rows : List (List ℕ)) (s : List ℕ) → rows ≡ rows_of s → length s ≡ 81 → flat rows ≡ s
laid_out rows s e n = ap flat e ∙ flat_rows s n
