-- `reopen::read_checks` meets its contract: what is left to test, and what is left to store.
-- Assumes nothing.
use Prim.Native.Nat.{◌-◌, ◌*◌}
use mathlib.Core.Path.{◌≡◌}
use Rattle.journal.specs.Limits.{check_bytes}
use Rattle.record.specs.Reopen.{checks_refusal}
use Rattle.record.proofs.Laying.{Laying}
use Rattle.reopen.proofs.Checking.{asks_left, stored_of}
use Rattle.reopen.proofs.read_checks.Given as goal

abbrev pub invariant-loop-k : goal.invariant-loop-k
invariant-loop-k l =
    let left = asks_left l.bytes l.start l.count in
    (checks_refusal l.board l.cells 1 (left 1) ≡ checks_refusal l.board l.cells l.k (left l.k))
    × Laying l.initial.checks 0 (stored_of l.board.solution (left 1)) l.checks (check_bytes * (l.k - 1)) (stored_of l.board.solution (left l.k))
