-- `puzzle::vouch::first_unfilled` meets its contract: what is left to test from `at` on decides.
-- Assumes nothing.
use Prim.Native.Nat.{◌+◌}
use mathlib.Core.Path.{refl, sym, ◌∙◌}
use native.Mathlib.Omega.{arith}
use Rattle.puzzle.specs.Refusals.{accepted}
use Rattle.puzzle.specs.Errors.{well_posed_refusal}
use Rattle.puzzle.specs.Vouch.{solution_digit}
use Rattle.puzzle.specs.Code.Rows.{flat}
use Rattle.puzzle.proofs.Refusals.{walk_refused, walk_more, walk_all, told_by, refuses}
use Rattle.puzzle.proofs.Rows.{flat_at}
use Rattle.puzzle.proofs.vouch.first_unfilled.Goals as goal

pub loop-at-init : goal.loop-at-init
loop-at-init c = refl

pub returns-in_err-solution_digit : goal.returns-in_err-solution_digit
returns-in_err-solution_digit c =
    let grid = flat c.args.rows in
    let turn = c.loop-at in
    let e = c.in_err-solution_digit.field-0.0 in
    told_by _ e _ c.from_residual.ensures.1
    (sym (turn.invariant ∙ walk_refused (solution_digit grid) 82 (turn.at + 1) (well_posed_refusal e) (omega arith)
    (c.in_err-solution_digit.ensures grid (flat_at c.args.rows turn.at (omega arith))) (refuses e)))

pub loop-at-preserved : goal.loop-at-preserved
loop-at-preserved c =
    let grid = flat c.args.rows in
    let turn = c.loop-at in
    turn.invariant ∙ walk_more (solution_digit grid) 82 (turn.at + 1) accepted (omega arith)
    (c.in_ok-solution_digit.ensures grid (flat_at c.args.rows turn.at (omega arith))) refl

pub returns : goal.returns
returns c =
    let turn = c.loop-at in
    sym (turn.invariant ∙ walk_all (solution_digit (flat c.args.rows)) 82 (turn.at + 1) (omega arith))
