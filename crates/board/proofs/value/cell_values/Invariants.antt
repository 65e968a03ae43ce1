-- `board::value::cell_values` meets its contract. The invariant: what was found so far, and what is left
-- of the walk, make the whole walk; and the one walk, with both tests of each cell, is the two.
-- Assumes nothing.
use Prim.Native.Nat.{ℕ, ◌+◌, ◌-◌}
use mathlib.Core.Path.{◌≡◌}
use mathlib.Core.Bool.{Bool}
use mathlib.Core.List.{List}
use Rattle.sudoku.specs.Tests.{both, every}
use Rattle.board.specs.Board.{digit_value, solution_value}
use Rattle.board.proofs.value.cell_values.Given as goal

-- both tests of a cell
abbrev pub cell_value : List ℕ → List ℕ → List ℕ → ℕ → Bool
cell_value digits given solution cell = both (digit_value digits given cell) (solution_value solution cell)

abbrev pub invariant-loop-i : goal.invariant-loop-i
invariant-loop-i l =
    every (cell_value l.digits l.given l.solution) 81 1 ≡ both l.ok (every (cell_value l.digits l.given l.solution) (82 - (l.i + 1)) (l.i + 1))
