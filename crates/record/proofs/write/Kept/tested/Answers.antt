-- `record::write::Kept::tested` meets its contract: 1 and 2, 14 of the slots, then 14 of the stored checks.
-- Assumes nothing.
use mathlib.Core.Path.{refl, ◌∙◌}
use Rattle.std.proofs.lemmas.Result.{err_from_is_err_and}
use Rattle.sudoku.proofs.Walks.{and_both}
use Rattle.play.proofs.Accepted.{lent_counts}
use Rattle.record.proofs.Writing.{lent_told, slots_told, checks_told}
use Rattle.record.proofs.write.Kept.tested.Goals as goal

pub returns-in_err-lent-clause-refusal : goal.returns-in_err-lent-clause-refusal
returns-in_err-lent-clause-refusal c =
    let a = c.args in
    let p = err_from_is_err_and c.from_residual.result c.from_residual.ensures.1 in
    rw (p.1, p.2) (lent_told a.board.now a.journal.now a.checks.now _ (and_both _ _) _ c.in_err-lent.ensures)

pub returns-in_err-all_sound-clause-refusal : goal.returns-in_err-all_sound-clause-refusal
returns-in_err-all_sound-clause-refusal c =
    let a = c.args in
    let p = err_from_is_err_and c.from_residual-in_err-all_sound.result c.from_residual-in_err-all_sound.ensures.1 in
    rw (p.1, p.2) (slots_told a.board.now a.journal.now a.checks.now _ (and_both _ _) c.in_ok-lent.ensures _ c.in_err-all_sound.ensures)

pub returns-in_err-all_sound-2-clause-refusal : goal.returns-in_err-all_sound-2-clause-refusal
returns-in_err-all_sound-2-clause-refusal c =
    let a = c.args in
    let p = err_from_is_err_and c.from_residual-in_err-all_sound-2.result c.from_residual-in_err-all_sound-2.ensures.1 in
    rw (p.1, p.2) (c.in_err-all_sound-2.ensures ∙ checks_told a.board.now a.journal.now a.checks.now _ (and_both _ _) c.in_ok-lent.ensures c.in_ok-all_sound.ensures)

pub invariant_of-result : goal.invariant_of-result
invariant_of-result c =
    let counts = lent_counts _ c.args.board.now c.args.journal.now 0 c.in_ok-lent.ensures refl in
    record { made_fits = counts.made; standing_fits = counts.standing; checks_fit = counts.checks }

pub returns-clause-refusal : goal.returns-clause-refusal
returns-clause-refusal c =
    let a = c.args in
    c.in_ok-all_sound-2.ensures ∙ checks_told a.board.now a.journal.now a.checks.now _ (and_both _ _) c.in_ok-lent.ensures c.in_ok-all_sound.ensures
