-- `texts::grids::read` meets its contract: what is left of the text leads to the same cells.
-- Assumes nothing.
use Rattle.std.proofs.Common.{ℕ, ◌-◌, ◌≤◌, length, Option, unwrap_or, IfSome, subst, sym, ap, ◌∙◌, arith}
use Rattle.texts.specs.Grids.{Cells, no_cells}
use Rattle.sudoku.specs.Tests.{run}
use Rattle.texts.proofs.Grid.{step, by_space, by_cell, by_wrong, is_wrong}
use Rattle.texts.proofs.grids.read.Goals as goal

pub loop-i-init : goal.loop-i-init
unfolding no_cells
loop-i-init c =
    let text = c.args.text.now in
    ap (λ (n : ℕ). run (step text) no_cells n 0) {x = length text} {y = length text - 0} (omega arith)

pub loop-i-preserved-then-is_space : goal.loop-i-preserved-then-is_space
loop-i-preserved-then-is_space c = by_space c.args.text.now c.loop-i.cells c.loop-i.count c.loop-i.i c.loop-i.invariant c.loop-i-test.true (sym c.is_space.ensures ∙ c.if-is_space.true)

pub returns-in_default-clause-cells : goal.returns-in_default-clause-cells
returns-in_default-clause-cells c =
    let is = ap (λ (v : Option ℕ). unwrap_or v 10) (sym c.in_default.is) ∙ c.value_of.ensures.value in
    let found = by_wrong c.args.text.now c.loop-i.cells c.loop-i.count c.loop-i.i c.loop-i.invariant c.loop-i-test.true (sym c.is_space.ensures ∙ c.if-is_space.false) 10 is (omega arith) in
    sym (ap (λ (s : Cells). s.cells) found)

pub returns-in_default-clause-whole : goal.returns-in_default-clause-whole
returns-in_default-clause-whole c =
    let is = ap (λ (v : Option ℕ). unwrap_or v 10) (sym c.in_default.is) ∙ c.value_of.ensures.value in
    let found = by_wrong c.args.text.now c.loop-i.cells c.loop-i.count c.loop-i.i c.loop-i.invariant c.loop-i-test.true (sym c.is_space.ensures ∙ c.if-is_space.false) 10 is (omega arith) in
    is_wrong _ c.loop-i.cells c.loop-i.count c.loop-i.i found

pub loop-i-preserved : goal.loop-i-preserved
loop-i-preserved c =
    let value = c.in-Some.value in
    let is = ap (λ (v : Option ℕ). unwrap_or v 10) (sym c.in-Some.is) ∙ c.value_of.ensures.value in
    let digit = subst (λ (v : Option ℕ). IfSome v (λ n. n ≤ 9)) c.in-Some.is c.value_of.ensures.digit in
    by_cell c.args.text.now c.loop-i.cells c.loop-i.count c.loop-i.i c.loop-i.invariant c.loop-i-test.true (sym c.is_space.ensures ∙ c.if-is_space.false) value is digit _ _ c.put-count.ensures.0
