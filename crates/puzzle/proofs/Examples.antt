-- Worked examples: a few grids, of which antt works out the status, conflicts and digits left.
-- Assumes nothing.
use Prim.Native.Nat.{ℕ, ◌+◌, ◌-◌, ◌*◌, ◌/◌, ◌%◌}
use mathlib.Core.Path.{◌≡◌, refl}
use mathlib.Core.Bool.{true, false}
use mathlib.Core.List.{List}
use lib.Dec.{eqb}
use lib.ListN.{replicate}
use Rattle.sudoku.specs.Tests.{pick, both, either, bit, every, count, among, keep, listed}
use Rattle.sudoku.specs.Grid.{is_cell, row_of, column_of, box_index, is_peer_of, are_peers, peers_of, at, put}
use Rattle.puzzle.specs.Puzzle.{is_held, holds_digit, conflicts, is_full, is_consistent, settled, stands_clear, clear_cells, digits_left, keypad}

-- solution G of document 01, and G with 1 and 2 exchanged
digit_g : ℕ → ℕ
digit_g cell = (3 * (row_of cell - 1) + (row_of cell - 1) / 3 + (column_of cell - 1)) % 9 + 1

exchanged : ℕ → ℕ
exchanged d = pick (eqb d 1) 2 (pick (eqb d 2) 1 d)

grid_g : List ℕ
grid_g = listed digit_g 81 1

other_grid : List ℕ
other_grid = listed (λ cell. exchanged (digit_g cell)) 81 1

-- an empty grid with 5 at two cells
fives : ℕ → ℕ → List ℕ
fives a b = put (put (replicate 81 0) a 5) b 5

-- The solution plays no part in the status: two grids with different digits at cell 1
-- are both solved. A grid with one empty cell is not, and a solved one stays solved.
statuses : (at grid_g 1 ≡ 1) × (at other_grid 1 ≡ 2) × (settled grid_g 0 ≡ 1) × (settled other_grid 0 ≡ 1)
    × (settled (put grid_g 81 0) 0 ≡ 0)
    × (settled (fives 1 2) 1 ≡ 1)
unfolding grid_g other_grid digit_g exchanged fives listed row_of column_of box_index pick at put settled is_full is_consistent conflicts holds_digit is_held every both either peers_of is_cell among keep are_peers is_peer_of
statuses = (refl, refl, refl, refl, refl, refl)

-- Cell 11 shares only the box with cell 1, and cell 73 is the last of its peers;
-- cell 81 is none. Cells without a digit do not conflict. Cell 81 counts.
clashes : (conflicts (fives 1 11) 1 ≡ true) × (conflicts (fives 1 73) 1 ≡ true) × (conflicts (fives 1 81) 1 ≡ false) × (conflicts (fives 1 11) 2 ≡ false)
    × (is_consistent (fives 73 81) ≡ false)
    × (is_full (put grid_g 81 0) ≡ false)
unfolding grid_g digit_g fives listed row_of column_of box_index pick at put is_full is_consistent conflicts holds_digit is_held every both either peers_of is_cell among keep are_peers is_peer_of
clashes = (refl, refl, refl, refl, refl, refl)

-- G holds 8 at cell 81. Two fives that are no peers count, and two of one box do not: an empty grid has as many fives
-- left. For key 0, which no keypad has, no cell counts.
lefts : (digits_left grid_g 8 ≡ 0) × (digits_left (put grid_g 81 0) 8 ≡ 1) × (digits_left (fives 1 81) 5 ≡ 7) × (digits_left (fives 1 11) 5 ≡ 9)
    × (digits_left (fives 1 81) 0 ≡ 9)
    × (keypad grid_g ≡ replicate 9 0)
unfolding grid_g digit_g fives listed row_of column_of box_index pick at put digits_left keypad clear_cells stands_clear count bit conflicts holds_digit is_held both either peers_of is_cell among keep are_peers is_peer_of
lefts = (refl, refl, refl, refl, refl, refl)
