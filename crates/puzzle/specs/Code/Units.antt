-- Whether a digit stands twice in a unit, which is a row, a column or
-- a box, said without peers: the grid is compared with itself, moved.
-- A grid is a list of 81 entries, nine rows of nine; a digit of 0 means none.
-- Assumes nothing.
use Rattle.std.specs.Prelude.{ℕ, ◌+◌, ◌-◌, ◌*◌, ◌/◌, ◌%◌, Bool, not, List, eqb, get_or}
use Rattle.sudoku.specs.Tests.{either, every, listed}

-- no two entries that stand `step` apart are the same digit
unfoldable pub step_clear : List ℕ → ℕ → Bool
step_clear grid step = every (λ i. either (eqb (get_or grid i 0) 0) (not (eqb (get_or grid i 0) (get_or grid (i + step) 0)))) (81 - step) 0

-- no column holds a digit twice: its entries stand 9, 18 and so on to 72 apart
unfoldable pub columns_clear : List ℕ → Bool
columns_clear grid = every (λ k. step_clear grid (9 * k)) 8 1

-- the grid in another order
unfoldable pub reordered : (ℕ → ℕ) → List ℕ → List ℕ
reordered order grid = listed (λ i. get_or grid (order i) 0) 81 0

-- the order that writes each row as a column
unfoldable pub row_order : ℕ → ℕ
row_order i = 9 * (i % 9) + i / 9

-- and each box: the first and the last of the index's four digits in base three change places
unfoldable pub box_order : ℕ → ℕ
box_order i = 27 * (i % 3) + 3 * (i / 3 % 9) + i / 27
