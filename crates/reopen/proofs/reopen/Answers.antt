-- `reopen::reopen` meets its contract: number 1, then zeros;
-- where the record is refused, zeros again and the zero board.
-- Assumes nothing.
use mathlib.Core.Path.{refl, sym, ◌∙◌}
use Rattle.board.specs.Open.{lent_lengths}
use Rattle.record.proofs.Errors.{reopen_numbered}
use Rattle.reopen.proofs.Settling.{wrong_lent, solution_length, journal_zero, checks_zero, lent_refused, lent_given}
use Rattle.reopen.proofs.reopen.Goals as goal

pub returns-then-not-lent_lengths : goal.returns-then-not-lent_lengths
unfolding lent_lengths
returns-then-not-lent_lengths c =
    let a = c.args in
    wrong_lent a.bytes.now a.solution.now a.journal.now a.checks.now _ (sym c.lent_lengths.ensures ∙ c.if-not-lent_lengths.true) c.wrong_length.ensures

pub reopened-requires : goal.reopened-requires
unfolding lent_lengths
reopened-requires c =
    let a = c.args in
    let lengths = sym c.lent_lengths.ensures ∙ c.if-not-lent_lengths.false in
    (solution_length a.bytes.now a.solution.now a.journal.now a.checks.now lengths, journal_zero a.bytes.now a.solution.now a.journal.now a.checks.now lengths _ _ refl (c.fill.ensures.after (λ _ e. e)), checks_zero a.bytes.now a.solution.now a.journal.now a.checks.now lengths _ _ refl (c.fill-2.ensures.after (λ _ e. e)))

pub returns-in-Ok : goal.returns-in-Ok
unfolding lent_lengths
returns-in-Ok c =
    let a = c.args in
    let lengths = sym c.lent_lengths.ensures ∙ c.if-not-lent_lengths.false in
    rw c.accepted.ensures (lent_given a.bytes.now a.solution.now a.journal.now a.checks.now lengths _ _ _ c.in-Ok.ensures.rest)

pub returns-in-Err : goal.returns-in-Err
unfolding lent_lengths
returns-in-Err c =
    let a = c.args in
    let lengths = sym c.lent_lengths.ensures ∙ c.if-not-lent_lengths.false in
    rw c.into.ensures
    (lent_refused a.bytes.now a.solution.now a.journal.now a.checks.now lengths _ c.in-Err.ensures.refusal (reopen_numbered c.in-Err.e) _ _ _ c.zero_board.ensures
    (journal_zero a.bytes.now a.solution.now a.journal.now a.checks.now lengths _ _ (c.reopened.auto.journal ∙ c.fill.auto.self) (c.fill-in-Err.ensures.after (λ _ e. e)))
    (checks_zero a.bytes.now a.solution.now a.journal.now a.checks.now lengths _ _ (c.reopened.auto.checks ∙ c.fill-2.auto.self) (c.fill-in-Err-2.ensures.after (λ _ e. e))))
