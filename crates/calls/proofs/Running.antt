-- The laws of a run: what each kind of call leaves, one group more, and none left.
-- Assumes nothing.
use Prim.Native.Nat.{ℕ, zero, suc, ◌+◌, ◌-◌, ◌*◌, ◌≤◌, ◌<◌}
use mathlib.Core.Path.{◌≡◌, refl, sym, ap, ◌∙◌}
use mathlib.Core.Bool.{false}
use mathlib.Core.List.{List, ◌++◌}
use native.Mathlib.Nat.{sub-eq-zero_of_le}
use native.Mathlib.Numerals.{add-one}
use native.Mathlib.Omega.{arith}
use lib.ListN.{length}
use Rattle.sudoku.specs.Tests.{listed}
use Rattle.sudoku.proofs.Walks.{left_one}
use Rattle.journal.specs.Bytes.{over}
use Rattle.journal.proofs.Memory.{over_nil, over_join}
use Rattle.board.specs.declared.Board.{Board}
use Rattle.board.specs.declared.Answer.{Answer}
use Rattle.board.specs.declared.Checked.{Checked}
use Rattle.play.specs.declared.Play.{Play}
use Rattle.play.specs.Play.{play_of, undo_of, redo_of}
use Rattle.play.specs.Check.{check_of}
use Rattle.calls.specs.declared.Call.TheVariants.{Make, Undo, Redo, Check}
use Rattle.calls.specs.Session.{Session, Said, called, call_of}
use Rattle.calls.specs.Encoded.{call_bytes, session, decode_at, run_one, left_by, said_to, answer_bytes, answers_bytes, Ran, ran, run_from}
use Rattle.calls.specs.Code.Running.{answered_at, run_at}

-- ---- what a call answers and leaves: nothing else of the session changes

module _ (b : Board) (journal checks : List ℕ) where
  pub makes : (p : Play) (a : Answer) (after : List ℕ) → (a ≡ (play_of b journal p).answer) × (after ≡ (play_of b journal p).journal)
      → called a.refusal false a.board after checks ≡ call_of (session b journal checks) (Make p)
  unfolding call_of
  makes p a after e = λ i. called (e.0 i).refusal false (e.0 i).board (e.1 i) checks

  pub undoes : (a : Answer) → a ≡ undo_of b journal → called a.refusal false a.board journal checks ≡ call_of (session b journal checks) Undo
  unfolding call_of
  undoes a p = λ i. called (p i).refusal false (p i).board journal checks

  pub redoes : (a : Answer) → a ≡ redo_of b journal → called a.refusal false a.board journal checks ≡ call_of (session b journal checks) Redo
  unfolding call_of
  redoes a p = λ i. called (p i).refusal false (p i).board journal checks

  pub checks_it : (row column : ℕ) (r : Checked) (after : List ℕ) → (r ≡ (check_of b checks row column).answer) × (after ≡ (check_of b checks row column).checks)
      → called r.refusal r.right r.board journal after ≡ call_of (session b journal checks) (Check row column)
  unfolding call_of
  checks_it row column r after p = λ i. called (p.0 i).refusal (p.0 i).right (p.0 i).board journal (p.1 i)

-- ---- one group more, and none left

-- four bytes for each group
pub length_answers : (calls : List ℕ) (s : Session) (n i : ℕ) → length (answers_bytes (said_to s (listed (decode_at calls) n i))) ≡ call_bytes * n
unfolding answers_bytes answer_bytes said_to listed
length_answers calls s zero i = refl
length_answers calls s (suc n) i = omega (arith, length_answers calls (run_one s (decode_at calls i)).left n (suc i))

-- an answer and those behind it
answered : (answers : List ℕ) (i : ℕ) (a : Said) (more : List ℕ) → call_bytes * i + call_bytes + length more ≤ length answers
    → over answers (call_bytes * i) (answer_bytes a ++ more) ≡ over (over answers (call_bytes * i) (answer_bytes a)) (call_bytes * suc i) more
unfolding answer_bytes
answered answers i a more h =
    sym (over_join answers (call_bytes * i) (answer_bytes a) (omega arith) more (omega arith))
    ∙ ap (λ (k : ℕ). over (over answers (call_bytes * i) (answer_bytes a)) k more) {x = call_bytes * i + 4} {y = call_bytes * suc i} (omega arith)

module _ (calls : List ℕ) (s : Session) (answers : List ℕ) where
  run_suc : (n i : ℕ) → call_bytes * i + call_bytes * suc n ≤ length answers
      → run_from calls s answers (suc n) i ≡ run_from calls (run_at calls s answers i).left (run_at calls s answers i).answers n (suc i)
  unfolding run_from run_at answered_at left_by said_to listed answers_bytes
  run_suc n i h =
      λ j.
      ran (left_by (run_one s (decode_at calls i)).left (listed (decode_at calls) n (suc i)))
      (answered answers i (run_one s (decode_at calls i)).said (answers_bytes (said_to (run_one s (decode_at calls i)).left (listed (decode_at calls) n (suc i))))
      (omega (arith, length_answers calls (run_one s (decode_at calls i)).left n (suc i))) j)

  pub run_more : (x : Ran) (e i : ℕ) → x ≡ run_at calls s answers i → i < e → call_bytes * e ≤ length answers
      → run_from calls s answers (e - i) i ≡ run_from calls x.left x.answers (e - (i + 1)) (i + 1)
  run_more x e i p h room =
      ap (λ (n : ℕ). run_from calls s answers n i) (left_one e i h)
      ∙ run_suc (e - (i + 1)) i (omega arith)
      ∙ ap (λ (k : ℕ). run_from calls (run_at calls s answers i).left (run_at calls s answers i).answers (e - (i + 1)) k) (sym (add-one i))
      ∙ ap (λ (y : Ran). run_from calls y.left y.answers (e - (i + 1)) (i + 1)) (sym p)

  pub run_all : (e i : ℕ) → e ≤ i → run_from calls s answers (e - i) i ≡ ran s answers
  unfolding run_from left_by said_to listed answers_bytes
  run_all e i h = ap (λ (n : ℕ). run_from calls s answers n i) (sub-eq-zero_of_le h) ∙ (λ j. ran s (over_nil answers (call_bytes * i) j))
