-- Puzzles and solutions as text: what one character says of its cell.
-- Assumes nothing.
use Rattle.std.specs.Prelude.{ℕ, ◌-◌, leb, eqb}
use Rattle.sudoku.specs.Tests.{pick, both}

-- a full stop or 0 is a blank, 1 to 9 a digit; 10 where the character is of another sort
unfoldable pub cell_value : ℕ → ℕ
cell_value byte = pick (eqb byte 46) 0 (pick (both (leb 48 byte) (leb byte 57)) (byte - 48) 10)
