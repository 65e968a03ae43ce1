-- `puzzle::vouch::first_conflict` meets its contract: what is left to test from `cell` on decides.
-- Assumes nothing.
use mathlib.Core.Path.{refl, sym, ◌∙◌}
use native.Mathlib.Omega.{arith}
use Rattle.puzzle.specs.Refusals.{accepted}
use Rattle.puzzle.specs.Errors.{well_posed_refusal}
use Rattle.puzzle.specs.Vouch.{solution_conflict}
use Rattle.puzzle.specs.Code.Rows.{flat}
use Rattle.puzzle.proofs.Refusals.{walk_refused, walk_more, walk_all, told_by, refuses}
use Rattle.puzzle.proofs.vouch.first_conflict.Goals as goal

pub loop-cell-init : goal.loop-cell-init
loop-cell-init c = refl

pub returns-in_err-conflict_at : goal.returns-in_err-conflict_at
returns-in_err-conflict_at c =
    let turn = c.loop-cell in
    let e = c.in_err-conflict_at.field-0.0 in
    told_by _ e _ c.from_residual.ensures.1
    (sym (turn.invariant ∙ walk_refused (solution_conflict (flat c.args.rows)) 82 turn.cell (well_posed_refusal e) (omega arith)
    c.in_err-conflict_at.ensures (refuses e)))

pub loop-cell-preserved : goal.loop-cell-preserved
loop-cell-preserved c =
    let turn = c.loop-cell in
    turn.invariant ∙ walk_more (solution_conflict (flat c.args.rows)) 82 turn.cell accepted (omega arith) c.in_ok-conflict_at.ensures refl

pub returns : goal.returns
returns c =
    let turn = c.loop-cell in
    sym (turn.invariant ∙ walk_all (solution_conflict (flat c.args.rows)) 82 turn.cell (omega arith))
