-- `puzzle::vouch::rows_of` meets its contract: the rows passed so far are the solution's.
-- Assumes nothing.
use mathlib.Core.Path.{◌≡◌}
use lib.ListN.{length, take}
use Rattle.sudoku.specs.Tests.{listed}
use Rattle.puzzle.specs.Code.Rows.{row_at}
use Rattle.puzzle.proofs.vouch.rows_of.Given as goal

abbrev pub invariant-loop-r : goal.invariant-loop-r
invariant-loop-r l = (length l.rows ≡ 9) × (take l.r l.rows ≡ listed (row_at l.solution) l.r 0)
