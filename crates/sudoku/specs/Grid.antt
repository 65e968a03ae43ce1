-- The grid of document 01 (sudoku.rs): positions, cells, bands and stacks, peers.
-- Assumes nothing.
use Rattle.std.specs.Prelude.{ℕ, ◌+◌, ◌-◌, ◌*◌, ◌/◌, ◌%◌, Bool, not, List, leb, eqb, get_or, set, replicate}
use Rattle.sudoku.specs.Tests.{pick, both, either, among}

-- rows and columns, and the digits, go from 1 to 9
unfoldable pub in_range : ℕ → Bool
in_range n = both (leb 1 n) (leb n 9)

-- a position is two bytes, row and column; it is on the grid when both are 1 to 9
unfoldable pub on_grid : ℕ → ℕ → Bool
on_grid row column = both (in_range row) (in_range column)

-- cells count from 1 to 81 row by row; 0 off the grid
unfoldable pub cell_of : ℕ → ℕ → ℕ
cell_of row column = pick (on_grid row column) (9 * (row - 1) + column) 0

unfoldable pub is_cell : ℕ → Bool
is_cell cell = both (leb 1 cell) (leb cell 81)

unfoldable pub row_of : ℕ → ℕ
row_of cell = (cell - 1) / 9 + 1

unfoldable pub column_of : ℕ → ℕ
column_of cell = (cell - 1) % 9 + 1

-- the band of a row byte, and the stack of a column byte: the byte
-- less one, not below 0, divided by three and rounded down, plus 1
unfoldable pub box_index : ℕ → ℕ
box_index line = (line - 1) / 3 + 1

-- two positions share a row, a column or a box (a band and a stack), and are not the same
unfoldable pub is_peer_of : ℕ → ℕ → ℕ → ℕ → Bool
is_peer_of row column row' column' =
    both
    (either (eqb row row') (either (eqb column column') (both (eqb (box_index row) (box_index row')) (eqb (box_index column) (box_index column')))))
    (not (both (eqb row row') (eqb column column')))

-- the same of two cells
unfoldable pub are_peers : ℕ → ℕ → Bool
are_peers cell other = is_peer_of (row_of cell) (column_of cell) (row_of other) (column_of other)

-- the twenty peers of a cell in ascending order; twenty zeros off the grid
unfoldable pub peers_of : ℕ → List ℕ
peers_of cell = pick (is_cell cell) (among (are_peers cell) 81 1) (replicate 20 0)

-- what a list of 81 entries, row by row, holds at a cell
unfoldable pub at : List ℕ → ℕ → ℕ
at l cell = get_or l (cell - 1) 0

-- the list with x put at a cell
unfoldable pub put : List ℕ → ℕ → ℕ → List ℕ
put l cell x = set l (cell - 1) x
