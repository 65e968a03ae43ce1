-- The puzzle in play (puzzle.rs): conflicts, full, consistent, the status, and the digits left for a key.
-- A list of digits has 81 entries, row by row; a digit of 0 means none.
-- Assumes nothing.
use Rattle.std.specs.Prelude.{ℕ, ◌-◌, Bool, false, not, List, [], ◌∷◌, eqb}
use Rattle.sudoku.specs.Tests.{pick, both, either, every, count, listed}
use Rattle.sudoku.specs.Grid.{at, peers_of}

-- one of the cells holds d
unfoldable pub is_held : List ℕ → ℕ → List ℕ → Bool
is_held digits d [] = false
is_held digits d (cell ∷ cells) = either (eqb (at digits cell) d) (is_held digits d cells)

unfoldable pub holds_digit : List ℕ → ℕ → Bool
holds_digit digits cell = not (eqb (at digits cell) 0)

-- a cell conflicts when it holds a digit that a peer also holds
unfoldable pub conflicts : List ℕ → ℕ → Bool
conflicts digits cell = both (holds_digit digits cell) (is_held digits (at digits cell) (peers_of cell))

unfoldable pub is_full : List ℕ → Bool
is_full digits = every (holds_digit digits) 81 1

unfoldable pub is_consistent : List ℕ → Bool
is_consistent digits = every (λ cell. not (conflicts digits cell)) 81 1

-- the status after a digit was put into a cell: 1, solved, if
-- all 81 cells hold digits and none conflicts. Solved is final
unfoldable pub settled : List ℕ → ℕ → ℕ
settled digits solved = pick (both (is_full digits) (is_consistent digits)) 1 solved

-- a cell counts for key d: it holds the digit d, which conflicts with no peer. An empty cell counts for none, not for 0
unfoldable pub stands_clear : List ℕ → ℕ → ℕ → Bool
stands_clear digits d cell = both (both (holds_digit digits cell) (eqb (at digits cell) d)) (not (conflicts digits cell))

unfoldable pub clear_cells : List ℕ → ℕ → ℕ
clear_cells digits d = count (stands_clear digits d) 81 1

-- keypad: digits left for key d, nine less those cells
unfoldable pub digits_left : List ℕ → ℕ → ℕ
digits_left digits d = 9 - clear_cells digits d

-- the keypad whole: digits left for each key, 1 to 9
unfoldable pub keypad : List ℕ → List ℕ
keypad digits = listed (digits_left digits) 9 1
