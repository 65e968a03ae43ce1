-- `play::moves::play` meets its contract. A refused call hands the
-- board back as it came, an accepted one has room for its slot.
-- Assumes nothing.
use mathlib.Core.Path.{refl, ap, ◌∙◌}
use native.Mathlib.Omega.{arith}
use Rattle.journal.specs.Slots.{bytes_of}
use Rattle.journal.proofs.Stores.{laid_over}
use Rattle.board.proofs.Told.{has_number}
use Rattle.play.specs.Play.{Played, record_move}
use Rattle.play.proofs.Accepted.{play_refused, play_made, play_room}
use Rattle.play.proofs.moves.play.Goals as goal

pub returns-in-Err : goal.returns-in-Err
returns-in-Err c =
    let a = c.args in
    let p = play_refused a.board a.journal.now a.p _ c.in-Err.ensures (λ n. omega (arith, has_number c.in-Err.e, n)) in
    (rw c.into-answer.ensures (ap (λ (x : Played). x.answer) p), ap (λ (x : Played). x.journal) p)

pub returns : goal.returns
unfolding record_move bytes_of
returns c =
    let a = c.args in
    let n = c.in_default.ensures in
    let p = play_made a.board a.journal.now a.p _ n refl in
    let room = play_room a.board a.journal.now a.p _ n refl in (
      rw (c.accepted.ensures, c.make.ensures.0, c.move_for-m.ensures) (ap (λ (x : Played). x.answer) p),
      rw c.move_for-m.ensures at c.make.ensures.1 ∙ laid_over _ _ _ room ∙ ap (λ (x : Played). x.journal) p,
    )
