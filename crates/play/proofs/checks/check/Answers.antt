-- `play::checks::check` meets its contract. An accepted check has room.
-- Assumes nothing.
use mathlib.Core.Path.{refl, ap, ◌∙◌}
use native.Mathlib.Omega.{arith}
use Rattle.journal.specs.State.{digit_at}
use Rattle.journal.specs.StoredChecks.{stored_bytes}
use Rattle.journal.proofs.Stores.{laid_over}
use Rattle.board.specs.Board.{state_of, counts_of, board_of}
use Rattle.board.proofs.Told.{has_number}
use Rattle.play.specs.Check.{CheckPlayed, check_on, with_check}
use Rattle.play.proofs.Accepted.{check_refused, check_made, check_room}
use borrow.Author.Rules.{rules}
use Rattle.play.proofs.checks.check.Goals as goal

pub returns-in-Err : goal.returns-in-Err
returns-in-Err c =
    let a = c.args in
    let p = check_refused a.board a.checks.now a.row a.column _ c.in-Err.ensures (λ n. omega (arith, has_number c.in-Err.e, n)) in
    (rw c.into-answer.ensures (ap (λ (x : CheckPlayed). x.answer) p), ap (λ (x : CheckPlayed). x.checks) p)

pub overflow_add-answer : goal.overflow_add-answer
overflow_add-answer c =
    let a = c.args in
    let room = (check_room a.board a.checks.now a.row a.column _ c.in_default.ensures refl).1 in
    search (rules, room)

pub returns : goal.returns
unfolding check_on digit_at state_of with_check board_of counts_of stored_bytes
returns c =
    let a = c.args in
    let p = check_made a.board a.checks.now a.row a.column _ c.in_default.ensures refl in
    let room = check_room a.board a.checks.now a.row a.column _ c.in_default.ensures refl in (
      rw (c.accepted.ensures, c.store_check.ensures.0, c.digit_at.ensures, c.cell_of.ensures.0) (ap (λ (x : CheckPlayed). x.answer) p),
      (rw (c.digit_at.ensures, c.cell_of.ensures.0) at c.store_check.ensures.1) ∙ laid_over _ _ _ (omega (arith, room.0, room.1)) ∙ ap (λ (x : CheckPlayed). x.checks) p,
    )
