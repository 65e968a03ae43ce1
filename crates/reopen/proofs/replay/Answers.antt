-- `reopen::replay` meets its contract: what is left to perform from the board and the journal as they are decides.
-- Assumes nothing.
use Prim.Native.Nat.{ℕ, ◌+◌, ◌-◌}
use mathlib.Core.Path.{ap, ◌∙◌}
use native.Mathlib.Omega.{arith}
use Rattle.std.proofs.lemmas.Result.{err_from_is_err_and}
use Rattle.board.specs.declared.Board.{Board}
use Rattle.board.specs.Board.{state_of, counts_of, board_of, moved}
use Rattle.play.specs.Play.{Played}
use Rattle.record.specs.Reopen.{replay}
use Rattle.record.proofs.Errors.{reopen_numbered}
use Rattle.reopen.specs.Code.Reopening.{moves_at}
use Rattle.reopen.proofs.Replaying.{recorded_le, turn_stops, turn_goes_on, replay_ends}
use Rattle.reopen.proofs.replay.Goals as goal

pub loop-k-init : goal.loop-k-init
loop-k-init c =
    let a = c.args in (
      c.requires.3,
      omega (arith, c.requires.2),
      omega arith,
      ap (λ (n : ℕ). replay a.board a.journal.now 1 (moves_at a.bytes.now a.start n)) {x = a.count + 1 - 1} {y = a.count} (omega arith),
    )

pub returns-in_err-next_test-clause-refusal : goal.returns-in_err-next_test-clause-refusal
unfolding state_of
returns-in_err-next_test-clause-refusal c =
    let a = c.args in
    let turn = c.loop-k in
    let p = err_from_is_err_and c.from_residual.result c.from_residual.ensures.1 in
    rw (p.1, p.2)
    (turn_stops a.bytes.now turn.at turn.k a.count turn.played turn.journal _ c.move_at-m.ensures (omega arith) _ c.in_err-next_test.ensures (reopen_numbered _)
    ∙ ap (λ (x : Played). x.answer.refusal) turn.invariant.3)

pub overflow_add-at : goal.overflow_add-at
overflow_add-at c = omega (arith, c.move_length-at.ensures.1, c.loop-k.invariant.2, c.requires.0, c.requires.1, c.well_formed.0.1)

pub loop-k-preserved : goal.loop-k-preserved
unfolding state_of counts_of moved board_of
loop-k-preserved c =
    let a = c.args in
    let turn = c.loop-k in (
      omega (arith, c.make.auto.journal, turn.invariant.0),
      omega (arith, recorded_le (counts_of turn.played), ap (λ (x : Board). x.standing) c.make.ensures.0, turn.invariant.1),
      omega (arith, c.move_length-at.ensures.1, turn.invariant.2),
      turn_goes_on a.bytes.now turn.at turn.k a.count turn.played turn.journal _ c.move_at-m.ensures (omega arith) c.in_ok-next_test.ensures _ _ c.make.ensures
          (omega (arith, turn.invariant.0, turn.invariant.1, c.requires.1)) _ c.move_length-at.ensures.0 _ turn.invariant.3,
    )

-- no move is left
pub returns : goal.returns
returns c =
    let a = c.args in
    let turn = c.loop-k in
    let end = replay_ends a.bytes.now turn.at turn.k a.count _ _ _ (omega arith) turn.invariant.3 in
    record { refusal = end.0; played = end.1 }

-- the last one was made
pub returns-in_ok-next_test : goal.returns-in_ok-next_test
unfolding state_of counts_of
returns-in_ok-next_test c =
    let a = c.args in
    let turn = c.loop-k in
    let on = turn_goes_on a.bytes.now turn.at turn.k a.count turn.played turn.journal _ c.move_at-m.ensures (omega arith) c.in_ok-next_test.ensures _ _ c.make.ensures
    (omega (arith, turn.invariant.0, turn.invariant.1, c.requires.1)) _ c.move_length-at.ensures.0 _ turn.invariant.3 in
    let end = replay_ends a.bytes.now (turn.at + c.move_length-at.result) (turn.k + 1) a.count _ _ _ (omega arith) on in
    record { refusal = end.0; played = end.1 }
