-- `puzzle::clear_cells` meets its contract: the cells passed so far are counted, those ahead are still to be.
-- Assumes nothing.
use Prim.Native.Nat.{◌+◌, ◌-◌}
use mathlib.Core.Path.{◌≡◌}
use Rattle.sudoku.specs.Tests.{count}
use Rattle.puzzle.specs.Puzzle.{stands_clear, clear_cells}
use Rattle.puzzle.proofs.clear_cells.Given as goal

abbrev pub invariant-loop-cell : goal.invariant-loop-cell
invariant-loop-cell l =
    l.n + count (stands_clear l.digits l.digit) (82 - l.cell) l.cell ≡ clear_cells l.digits l.digit
