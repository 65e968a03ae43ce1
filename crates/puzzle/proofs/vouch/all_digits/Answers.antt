-- `puzzle::vouch::all_digits` meets its contract. The invariant: what
-- was found so far, and what is left of the walk, make the whole walk.
-- Assumes nothing.
use Prim.Native.Nat.{◌+◌}
use mathlib.Core.Path.{refl, sym, ap, ◌∙◌}
use native.Mathlib.Omega.{arith}
use Rattle.sudoku.specs.Tests.{both}
use Rattle.sudoku.specs.Grid.{in_range}
use Rattle.sudoku.proofs.Walks.{and_both}
use Rattle.puzzle.proofs.Columns.{clear_more, clear_all}
use Rattle.puzzle.proofs.Rows.{flat_at}
use Rattle.puzzle.proofs.vouch.all_digits.Invariants.{test}
use Rattle.puzzle.proofs.vouch.all_digits.Goals as goal

pub loop-at-init : goal.loop-at-init
unfolding both
loop-at-init c = refl

pub loop-at-preserved : goal.loop-at-preserved
loop-at-preserved c =
    let rows = c.args.rows in
    let turn = c.loop-at in
    clear_more (test rows) _ turn.ok _ 82 (turn.at + 1) (omega arith)
    (and_both turn.ok _
    ∙ ap (both turn.ok) (c.in_range-ok.ensures ∙ ap in_range (sym (flat_at rows turn.at (omega arith)))))
    turn.invariant

pub returns : goal.returns
returns c =
    let turn = c.loop-at in
    clear_all (test c.args.rows) _ turn.ok 82 (turn.at + 1) (omega arith) turn.invariant
