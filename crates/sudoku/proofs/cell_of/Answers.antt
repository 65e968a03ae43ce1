-- `sudoku::cell_of` meets its contract: on the grid its definition computes, and it is 81 at most.
-- Assumes nothing.
use mathlib.Core.Path.{sym, ◌∙◌}
use native.Mathlib.Omega.{arith}
use Rattle.sudoku.proofs.Grid.{cell_on, cell_off, cell_le, grid_bounds}
use Rattle.sudoku.proofs.cell_of.Goals as goal

pub overflow_sub-result : goal.overflow_sub-result
overflow_sub-result c =
    let a = c.args in
    omega (arith, grid_bounds a.row a.column (sym c.on_grid.ensures ∙ c.if-on_grid.true))

pub returns-then-on_grid : goal.returns-then-on_grid
returns-then-on_grid c =
    let a = c.args in
    omega (arith, cell_on a.row a.column (sym c.on_grid.ensures ∙ c.if-on_grid.true), cell_le a.row a.column)

pub returns-else-on_grid : goal.returns-else-on_grid
returns-else-on_grid c =
    let a = c.args in
    omega (arith, cell_off a.row a.column (sym c.on_grid.ensures ∙ c.if-on_grid.false))
