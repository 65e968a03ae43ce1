-- `puzzle::units::columns_clear` meets its contract: what is left to test from `k` on decides.
-- Assumes nothing.
use mathlib.Core.Path.{refl, sym, ◌∙◌}
use native.Mathlib.Omega.{arith}
use Rattle.sudoku.proofs.Walks.{every_more, every_fails, every_all}
use Rattle.puzzle.specs.Code.Units.{columns_clear}
use Rattle.puzzle.proofs.units.columns_clear.Invariants.{test}
use Rattle.puzzle.proofs.units.columns_clear.Goals as goal

pub loop-k-init : goal.loop-k-init
unfolding columns_clear
loop-k-init c = refl

pub returns-then-not-step_clear : goal.returns-then-not-step_clear
returns-then-not-step_clear c =
    let turn = c.loop-k in
    sym (turn.invariant ∙ every_fails (test c.args.digits.now) 9 turn.k (omega arith)
    (sym c.step_clear.ensures ∙ c.if-not-step_clear.true))

pub loop-k-preserved : goal.loop-k-preserved
loop-k-preserved c =
    let turn = c.loop-k in
    turn.invariant ∙ every_more (test c.args.digits.now) 9 turn.k (omega arith)
    (sym c.step_clear.ensures ∙ c.if-not-step_clear.false)

pub returns : goal.returns
returns c =
    let turn = c.loop-k in
    sym (turn.invariant ∙ every_all (test c.args.digits.now) 9 turn.k (omega arith))
