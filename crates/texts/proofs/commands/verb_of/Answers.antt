-- `texts::commands::verb_of` meets its contract.
-- Assumes nothing.
use Rattle.std.proofs.Common.{length, sym, ap, ◌∙◌, arith}
use borrow.Author.Tests.{eq-eqb, ne_eqb, ltb-true, ltb-false}
use Rattle.sudoku.proofs.Walks.{pick_true, pick_false}
use Rattle.texts.specs.Commands.{verb_of, verb_of_letter}
use Rattle.texts.proofs.Names.{found_or_unknown}
use Rattle.texts.proofs.commands.verb_of.Goals as goal
use Rattle.texts.proofs.commands.verb_of.Goals.{in_default-via-then-name-lt1, in_default-via-else-name-lt1+else-name-lt2}

pub returns-in-len1 : goal.returns-in-len1
unfolding verb_of
returns-in-len1 c = c.verb_of_letter.ensures ∙ ap verb_of_letter (sym (pick_true _ _ _ (eq-eqb _ _ (omega arith))))

pub returns-in_default : goal.returns-in_default
unfolding verb_of
returns-in_default c =
    let name = c.args.name.now in
    let long = ne_eqb (length name) 1 (λ e. elim c.in_default.branch [ in_default-via-then-name-lt1 w ↦ absurd (omega (arith, ltb-true)) | in_default-via-else-name-lt1+else-name-lt2 w ↦ absurd (omega (arith, ltb-true, ltb-false)) ]) in
    rw (c.unwrap_or.ensures, c.named.ensures) (found_or_unknown _ ∙ ap verb_of_letter (sym (pick_false _ _ _ long)))
