-- `texts::commands::number` meets its contract: what is left of the text leads to the same number.
-- Assumes nothing.
use Rattle.std.proofs.Common.{refl, sym, ◌∙◌}
use Rattle.sudoku.proofs.Walks.{pick_true, pick_false}
use Rattle.texts.specs.Commands.{number_of}
use Rattle.texts.proofs.Figures.{figures_wrong, figures_next, figures_end}
use Rattle.texts.proofs.commands.number.Goals as goal

pub returns-then-is_empty : goal.returns-then-is_empty
unfolding number_of
returns-then-is_empty c = sym (pick_true _ _ _ (sym c.is_empty.ensures ∙ c.if-is_empty.true))

pub loop-byte-init : goal.loop-byte-init
loop-byte-init c = refl

pub returns-in_err-n : goal.returns-in_err-n
unfolding number_of
returns-in_err-n c =
    let wrong = figures_wrong c.args.text.now _ _ c.loop-byte-test.true (sym (c.in_err-n.ensures)) in
    c.from_residual.ensures ∙ sym (pick_false _ _ _ (sym c.is_empty.ensures ∙ c.if-is_empty.false) ∙ c.loop-byte.invariant ∙ wrong)

pub loop-byte-preserved : goal.loop-byte-preserved
loop-byte-preserved c = c.loop-byte.invariant ∙ figures_next c.args.text.now _ _ _ c.loop-byte-test.true (sym (c.in_ok-n.ensures))

pub returns : goal.returns
unfolding number_of
returns c =
    sym (pick_false _ _ _ (sym c.is_empty.ensures ∙ c.if-is_empty.false) ∙ c.loop-byte.invariant ∙ figures_end c.args.text.now _ _ c.loop-byte-test.false)
