-- `board::value::cell_values` meets its contract. The invariant: what was found so far, and what is left
-- of the walk, make the whole walk; and the one walk, with both tests of each cell, is the two.
-- Assumes nothing.
use Prim.Native.Nat.{ℕ, ◌+◌}
use mathlib.Core.Path.{◌≡◌, refl, sym, ap, ◌∙◌}
use mathlib.Core.List.{List}
use lib.ListN.{get_or}
use Rattle.sudoku.specs.Tests.{both}
use Rattle.sudoku.specs.Grid.{in_range}
use Rattle.sudoku.proofs.Walks.{and_both, every_both}
use Rattle.board.specs.Board.{may_stand, digit_value, solution_value}
use Rattle.board.proofs.Values.{at_next, turn, at_end}
use Rattle.board.proofs.value.cell_values.Invariants.{cell_value}
use Rattle.board.proofs.value.cell_values.Goals as goal

-- of cell i + 1, by what stands at i
here : (digits given solution : List ℕ) (i : ℕ)
    → cell_value digits given solution (i + 1) ≡ both (may_stand (get_or digits i 0) (get_or given i 0)) (in_range (get_or solution i 0))
unfolding digit_value solution_value
here digits given solution i = rw (at_next digits i, at_next given i, at_next solution i)

pub loop-i-init : goal.loop-i-init
unfolding both
loop-i-init c = refl

pub loop-i-preserved : goal.loop-i-preserved
loop-i-preserved c =
    let a = c.args in
    let i = c.loop-i.i in
    turn (cell_value a.digits.now a.given.now a.solution.now) _ _ _ i c.loop-i-test.true
    (rw (c.cell_value-ok.ensures, and_both) (ap (both c.loop-i.ok) (sym (here a.digits.now a.given.now a.solution.now i))))
    c.loop-i.invariant

pub returns : goal.returns
returns c =
    let a = c.args in
    at_end (cell_value a.digits.now a.given.now a.solution.now) _ _ c.loop-i.i c.loop-i-test.false c.loop-i.invariant
    ∙ every_both (digit_value a.digits.now a.given.now) (solution_value a.solution.now) 81 1
