-- The solution as nine rows of nine, and the 81 digits of nine rows, row by row.
-- Assumes nothing.
use Rattle.std.specs.Prelude.{ℕ, ◌+◌, ◌*◌, ◌/◌, ◌%◌, List, [], get_or}
use Rattle.sudoku.specs.Tests.{listed}

-- row r, counted from 0; bytes past the end read as 0
unfoldable pub row_at : List ℕ → ℕ → List ℕ
row_at solution r = listed (λ i. get_or solution (9 * r + i) 0) 9 0

unfoldable pub rows_of : List ℕ → List (List ℕ)
rows_of solution = listed (row_at solution) 9 0

-- the entry with index i, counted from 0 over all nine rows
unfoldable pub entry_at : List (List ℕ) → ℕ → ℕ
entry_at rows i = get_or (get_or rows (i / 9) []) (i % 9) 0

unfoldable pub flat : List (List ℕ) → List ℕ
flat rows = listed (entry_at rows) 81 0
