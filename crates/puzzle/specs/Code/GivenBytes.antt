-- Givens as the code reads them out of bytes: opening's triples, or the items of a record.
-- Assumes nothing.
use Rattle.std.specs.Prelude.{ℕ, ◌+◌, ◌*◌, List, get_or, replicate}
use Rattle.sudoku.specs.Tests.{listed, run}
use Rattle.sudoku.specs.Grid.{cell_of, put}
use Rattle.puzzle.specs.declared.Given.{Given}
use Rattle.puzzle.specs.declared.Layout.{Layout}
use Rattle.puzzle.specs.declared.Layout.TheVariants.{Triples, Items}
use Rattle.puzzle.specs.Givens.{given}

-- the given whose three bytes start at an index; bytes past the end read as 0
unfoldable pub given_from : List ℕ → ℕ → Given
given_from bytes start = given (get_or bytes start 0) (get_or bytes (start + 1) 0) (get_or bytes (start + 2) 0)

-- the given with index i, counted from 0, where the first starts
-- at `start` and each other `step` bytes after the one before it
unfoldable pub given_at : List ℕ → ℕ → ℕ → ℕ → Given
given_at bytes start step i = given_from bytes (start + step * i)

-- the first `count` givens that stand so
unfoldable pub givens_at : List ℕ → ℕ → ℕ → ℕ → List Given
givens_at bytes start step count = listed (given_at bytes start step) count 0

-- opening's triples stand one after the other; an item of a record has its kind byte first
unfoldable pub given_in : Layout → List ℕ → ℕ → Given
given_in Triples bytes i = given_at bytes 0 3 i
given_in Items bytes i = given_at bytes 1 4 i

unfoldable pub givens_in : Layout → List ℕ → ℕ → List Given
givens_in layout bytes count = listed (given_in layout bytes) count 0

-- the 81 cells with a value of each given laid at its cell, in order, over zeros
unfoldable pub laid_by : (Given → ℕ) → Layout → List ℕ → ℕ → List ℕ
laid_by value layout bytes count =
    run (λ cells i. put cells (cell_of (given_in layout bytes i).row (given_in layout bytes i).column) (value (given_in layout bytes i)))
    (replicate 81 0) count 0
