-- `reopen::settle` meets its contract: 30, a check refused, or all checks stored over zeros.
-- Assumes nothing.
use Prim.Native.Nat.{◌-◌, ◌*◌}
use mathlib.Core.Path.{refl, sym, ap, ◌∙◌}
use mathlib.Core.List.{List}
use Prim.Native.Nat.{ℕ}
use native.Mathlib.Omega.{arith}
use lib.ListN.{length}
use Rattle.std.proofs.lemmas.Result.{err_from_is_err_and}
use Rattle.journal.specs.Bytes.{over}
use Rattle.journal.specs.Limits.{check_item_bytes}
use Rattle.board.specs.Board.{state_of, counts_of, board_of}
use Rattle.record.proofs.Errors.{reopen_numbered}
use Rattle.reopen.specs.Code.Reopening.{asks_at}
use Rattle.reopen.proofs.Checking.{asks_length, stored_of}
use Rattle.reopen.proofs.Settling.{reopens_refused, reopens_given, no_checks_length, settled_30, settled_refused, settled_gives}
use Rattle.reopen.proofs.settle.Goals as goal

pub returns-then-is_undone_solved : goal.returns-then-is_undone_solved
returns-then-is_undone_solved c =
    let a = c.args in
    reopens_refused _ _ _ _ (settled_30 a.s.undone (asks_at a.bytes.now (length a.bytes.now - check_item_bytes * a.s.checks) a.s.checks) a.board a.journal.now (sym c.is_undone_solved.ensures ∙ c.if-is_undone_solved.true))

pub read_checks-requires : goal.read_checks-requires
read_checks-requires c =
    let pre = c.requires in
    (omega arith, pre.0, ap length pre.2 ∙ no_checks_length)

pub returns-in_err-read_checks : goal.returns-in_err-read_checks
returns-in_err-read_checks c =
    let a = c.args in
    let back = c.take_back_all in
    let p = err_from_is_err_and c.from_residual.result c.from_residual.ensures.1 in
    rw (p.1, p.2) (reopens_refused _ _ _ _ (settled_refused a.s.undone (asks_at a.bytes.now (length a.bytes.now - check_item_bytes * a.s.checks) a.s.checks) a.board a.journal.now (sym c.is_undone_solved.ensures ∙ c.if-is_undone_solved.false) back.new.board back.ensures _ c.in_err-read_checks.ensures.refusal (reopen_numbered _)))

pub returns : goal.returns
unfolding board_of state_of counts_of
returns c =
    let a = c.args in
    let back = c.take_back_all in
    let checked = c.in_ok-read_checks.ensures in
    let cs = asks_at a.bytes.now (length a.bytes.now - check_item_bytes * a.s.checks) a.s.checks in
    reopens_given _ _ _ _
    (settled_gives a.s.undone cs a.board a.journal.now (sym c.is_undone_solved.ensures ∙ c.if-is_undone_solved.false) back.new.board back.ensures _ checked.refusal refl _ a.s.checks _ refl
    (sym (asks_length a.bytes.now (length a.bytes.now - check_item_bytes * a.s.checks) a.s.checks))
    (checked.stored ∙ ap (λ (l : List ℕ). over l 0 (stored_of back.new.board.solution cs)) c.requires.2))
