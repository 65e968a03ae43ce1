-- Rows, columns and boxes as units: nine of each kind, numbered 1 to 9; how
-- often a unit holds a digit, and that each unit holds each digit once.
-- A list of digits has 81 entries, row by row; a digit of 0 means none.
-- Assumes nothing.
use Rattle.std.specs.Prelude.{ℕ, ◌+◌, ◌-◌, ◌*◌, ◌≡◌, Bool, true, List, eqb}
use Rattle.sudoku.specs.Tests.{both, count}
use Rattle.sudoku.specs.Grid.{in_range, row_of, column_of, box_index, at}

pub data Kind : Type 0 where
  Row Column Box : Kind

-- the number of the unit in which a cell stands. A box is a band and a stack: boxes count band by band
unfoldable pub unit_of : Kind → ℕ → ℕ
unit_of Row cell = row_of cell
unit_of Column cell = column_of cell
unit_of Box cell = 3 * (box_index (row_of cell) - 1) + box_index (column_of cell)

unfoldable pub in_unit : Kind → ℕ → ℕ → Bool
in_unit kind number cell = eqb (unit_of kind cell) number

-- of the cells of a unit, how many hold d
unfoldable pub times_held : List ℕ → Kind → ℕ → ℕ → ℕ
times_held digits kind number d = count (λ cell. both (in_unit kind number cell) (eqb (at digits cell) d)) 81 1

-- every row, column and box holds each of 1 to 9 once
unfoldable pub EachOnce : List ℕ → Type 0
EachOnce digits = (kind : Kind) (number d : ℕ) → in_range number ≡ true → in_range d ≡ true → times_held digits kind number d ≡ 1
