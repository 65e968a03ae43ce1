-- `reopen::read_checks` meets its contract: what is left to test, and what is left to store.
-- Assumes nothing.
use Prim.Native.Nat.{ℕ, ◌+◌, ◌*◌}
use mathlib.Core.Path.{refl, sym, ap, ◌∙◌}
use native.Mathlib.Omega.{arith}
use Rattle.std.proofs.lemmas.Result.{err_from_is_err_and}
use Rattle.journal.specs.Limits.{check_bytes}
use Rattle.record.specs.Reopen.{to_play, checks_refusal}
use Rattle.record.proofs.Errors.{reopen_numbered}
use Rattle.record.proofs.Laying.{laying_start}
use Rattle.reopen.proofs.Checking.{asks_left, asks_all, stored_of, stored_size, check_stops, one_more, all_read}
use Rattle.reopen.proofs.read_checks.Goals as goal

pub loop-k-init : goal.loop-k-init
loop-k-init c =
    let a = c.args in
    let pre = c.requires in (
      refl,
      laying_start a.checks.now 0 (stored_of a.board.now.solution (asks_left a.bytes.now a.start a.count 1)) (omega (arith, stored_size a.board.now.solution a.bytes.now a.start a.count 1, pre.1, pre.2)),
    )

pub returns-in_err-check_test-clause-refusal : goal.returns-in_err-check_test-clause-refusal
returns-in_err-check_test-clause-refusal c =
    let a = c.args in
    let b = a.board.now in
    let turn = c.loop-k in
    let p = err_from_is_err_and c.from_residual.result c.from_residual.ensures.1 in
    let e = c.in_err-check_test.field-0.0 in
    let stops = check_stops a.bytes.now a.start a.count turn.k b c.to_play-cells.result c.asked_at-asked.result (omega arith) c.asked_at-asked.ensures _ c.in_err-check_test.ensures (reopen_numbered e) in
    let all = ap (checks_refusal b (to_play b) 1) (asks_all a.bytes.now a.start a.count) ∙ ap (λ (n : ℕ). checks_refusal b n 1 (asks_left a.bytes.now a.start a.count 1)) (sym c.to_play-cells.ensures) in
    rw (p.1, p.2) (sym (all ∙ turn.invariant.0 ∙ stops))

pub loop-k-preserved : goal.loop-k-preserved
loop-k-preserved c =
    let a = c.args in
    let turn = c.loop-k in
    let asked = c.asked_at-asked in
    one_more a.bytes.now a.start a.count turn.k a.board.now c.to_play-cells.result _ _ asked.result (omega arith) (omega arith) asked.ensures c.in_ok-check_test.ensures turn.invariant.0 turn.invariant.1 _ _ (omega arith) c.store_check.ensures.1

-- no check, and after the last one
pub returns : goal.returns
returns c =
    let a = c.args in
    let turn = c.loop-k in
    let read = all_read a.bytes.now a.start a.count turn.k a.board.now _ _ _ _ (omega arith) c.to_play-cells.ensures turn.invariant.0 turn.invariant.1 in
    record { refusal = read.0; stored = read.1 }

pub returns-in_ok-check_test : goal.returns-in_ok-check_test
returns-in_ok-check_test c =
    let a = c.args in
    let turn = c.loop-k in
    let asked = c.asked_at-asked in
    let more = one_more a.bytes.now a.start a.count turn.k a.board.now c.to_play-cells.result _ _ asked.result (omega arith) (omega arith) asked.ensures c.in_ok-check_test.ensures turn.invariant.0 turn.invariant.1 _ (check_bytes * turn.k) refl c.store_check.ensures.1 in
    let read = all_read a.bytes.now a.start a.count (turn.k + 1) a.board.now _ _ _ (check_bytes * turn.k) (omega arith) c.to_play-cells.ensures more.0 more.1 in
    record { refusal = read.0; stored = read.1 }
