-- `pawdoku::list::pawdoku_play` meets its contract: what is left of the run is run from what the last call left.
-- Assumes nothing.
use Prim.Native.Nat.{ℕ, ◌+◌, ◌*◌, ◌≤◌}
use mathlib.Core.Path.{◌≡◌, sym, ap, ◌∙◌}
use mathlib.Core.List.{List}
use native.Mathlib.Omega.{arith}
use lib.ListN.{length}
use Rattle.journal.specs.Bytes.{over}
use Rattle.journal.proofs.Stores.{copied, laid_over}
use Rattle.std.specs.Prelude.{Option}
use Rattle.calls.specs.declared.Call.{Call}
use Rattle.calls.specs.Session.{Session}
use Rattle.calls.specs.Encoded.{call_bytes, answer_bytes, decode_at, run_one, ran, run_of}
use Rattle.calls.specs.Code.Running.{answered_at, run_at}
use Rattle.calls.proofs.Running.{run_more, run_all}
use Rattle.pawdoku.proofs.list.pawdoku_play.Goals as goal

-- one group, run and answered in its place
one_run : (calls : List ℕ) (s left : Session) (answers bytes after : List ℕ) (i : ℕ) (d : Option Call) → d ≡ decode_at calls i → left ≡ (run_one s d).left
    → bytes ≡ answer_bytes (run_one s d).said → after ≡ over answers (call_bytes * i) bytes → ran left after ≡ run_at calls s answers i
unfolding run_at answered_at
one_run calls s left answers bytes after i d e l b a =
    (λ j. ran (l j) ((a ∙ ap (over answers (call_bytes * i)) b) j)) ∙ ap (λ (x : Option Call). answered_at answers i (run_one s x)) e

pub loop-i-preserved : goal.loop-i-preserved
unfolding answer_bytes
loop-i-preserved c =
    let left = c.one_call-left.ensures in
    let bytes = c.copy_from_slice.new.self in
    let same = c.copy_from_slice.ensures.after in
    let room : call_bytes * c.groups-end.result ≤ length c.loop-i.answers = omega (arith, c.groups-end.ensures.2, c.loop-i.auto.answers) in
    let long : length bytes ≡ call_bytes = omega (arith, ap length same, ap length left.answer_after) in
    let start = call_bytes * c.loop-i.i in
    let fits : start + length bytes ≤ length c.loop-i.answers = omega (arith, room, long, c.loop-i-test.true) in
    let laid = copied c.loop-i.answers start _ bytes (omega (arith, long)) fits ∙ laid_over c.loop-i.answers start bytes fits in
    c.loop-i.invariant
    ∙ run_more _ _ _ _ _ _ (one_run _ _ _ _ _ _ _ _ c.decode_at.ensures left.left (same ∙ left.answer_after) laid) c.loop-i-test.true room

pub returns-clause-answers_after : goal.returns-clause-answers_after
unfolding run_of
returns-clause-answers_after c = sym (run_all _ _ _ _ _ c.loop-i-test.false) ∙ sym c.loop-i.invariant ∙ rw c.groups-end.ensures.0
