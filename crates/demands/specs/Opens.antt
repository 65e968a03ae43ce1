-- Givens open with a solution when none of 1, 19 and 22 to 27 applies.
-- Stated in document 01's words, not by the tests of opening.
-- Assumes nothing.
use Rattle.std.specs.Prelude.{ℕ, ◌<◌, ◌≡◌, true, List, length, get_or}
use Rattle.sudoku.specs.Grid.{in_range, on_grid, cell_of, is_cell, are_peers, at}
use Rattle.puzzle.specs.declared.Given.{Given}
use Rattle.puzzle.specs.Givens.{given, precedes}

-- given i of a list, counted from 0
unfoldable pub nth : List Given → ℕ → Given
nth gs i = get_or gs i (given 0 0 0)

pub record Opens (givens : List Given) (solution : List ℕ) : Type 0 where
  -- 1: the solution has 81 bytes
  pub cells : length solution ≡ 81
  -- 19: strictly ascending
  pub ascend : (i j : ℕ) → i < j → j < length givens → precedes (nth givens i) (nth givens j) ≡ true
  -- 22: fewer than 81 givens
  pub left : length givens < 81
  -- 23, 24: the solution's digits are 1 to 9
  pub digits : (cell : ℕ) → is_cell cell ≡ true → in_range (at solution cell) ≡ true
  -- 25: no two peers are equal
  pub agree : (cell other : ℕ) → is_cell cell ≡ true → is_cell other ≡ true → are_peers cell other ≡ true → at solution cell ≡ at solution other → ⊥
  -- 26: each given is on the grid
  pub grid : (i : ℕ) → i < length givens → on_grid (nth givens i).row (nth givens i).column ≡ true
  -- 27: each given is the solution's digit
  pub match : (i : ℕ) → i < length givens → at solution (cell_of (nth givens i).row (nth givens i).column) ≡ (nth givens i).digit
