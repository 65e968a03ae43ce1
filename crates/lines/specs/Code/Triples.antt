-- How the code lays the digits of 81 cells as givens: the bytes of one cell's given.
-- Assumes nothing.
use Rattle.std.specs.Prelude.{ℕ, List, [], ◌∷◌}
use Rattle.sudoku.specs.Tests.{pick}
use Rattle.sudoku.specs.Grid.{at, row_of, column_of}
use Rattle.puzzle.specs.Puzzle.{holds_digit}

-- no bytes where the cell holds no digit
unfoldable pub given_bytes : List ℕ → ℕ → List ℕ
given_bytes digits cell = pick (holds_digit digits cell) (row_of cell ∷ column_of cell ∷ at digits cell ∷ []) []
