-- What the calls give where they are refused and where they are accepted, and what an
-- accepted call has passed: where its slot or its check goes, the memory has room.
-- Assumes nothing.
use Prim.Native.Nat.{ℕ, ◌+◌, ◌*◌, ◌≤◌, ◌<◌}
use mathlib.Core.Path.{◌≡◌, sym, ap, ◌∙◌}
use mathlib.Core.Bool.{Bool, true, false}
use mathlib.Core.List.{List, [], ◌∷◌, ◌++◌}
use native.Mathlib.Omega.{arith}
use borrow.Author.Tests.{eqb-true, eqb-false, leb-true, eq-eqb, ne_eqb, not-false}
use lib.Dec.{leb, eqb}
use lib.ListN.{length}
use Rattle.sudoku.specs.Tests.{Test, ◌⇒◌, first}
use Rattle.sudoku.proofs.Walks.{passed, pick_true, pick_false, both_left, both_right}
use Rattle.puzzle.specs.Refusals.{refusal, accepted, first_refused}
use Rattle.puzzle.proofs.Refusals.{or_else_by, or_else_passed}
use Rattle.journal.specs.Limits.{max_moves, max_checks, slot_bytes, journal_bytes, check_bytes, check_memory}
use Rattle.journal.specs.Bytes.{over}
use Rattle.journal.specs.StoredChecks.{stored_bytes}
use Rattle.board.specs.declared.Board.{Board}
use Rattle.board.specs.Board.{state_of, is_board, lent_tests}
use Rattle.play.specs.Play.{unsound_slot, journal_refusal, played, play_tests, move_for, call_tests, record_move, play_of, slot_refusal}
use Rattle.play.specs.declared.Play.{Play}
use Rattle.play.specs.declared.sound.Unsound.{Unsound}
use Rattle.play.specs.declared.sound.Unsound.TheVariants.{Slot, Check}
use Rattle.play.specs.Unsound.{unsound_refusal}
use Rattle.play.specs.Check.{checked, check_tests, check_on, with_check, check_of}
use Rattle.play.proofs.Joined.{plays_numbered, join_last}

-- ---- the counts of a board value that number 2 does not refuse

pub record Counted (b : Board) : Type 0 where
  pub made : b.made ≤ max_moves
  pub standing : b.standing ≤ b.made
  pub checks : b.checks ≤ max_checks

pub board_counts : (b : Board) → is_board b ≡ true → Counted b
unfolding is_board
board_counts b p =
    let q = both_right (leb b.made max_moves) _ p in
    let r = both_right (leb b.standing b.made) _ q in
    record {
      made = leb-true b.made max_moves (both_left (leb b.made max_moves) _ p);
      standing = leb-true b.standing b.made (both_left (leb b.standing b.made) _ q);
      checks = leb-true b.checks max_checks (both_left (leb b.checks max_checks) _ r);
    }

-- what a call with a lent journal has passed before its own tests
pub record Lent (b : Board) (journal : List ℕ) (ts : List Test) : Type 0 where
  pub bytes : length journal ≡ journal_bytes
  pub counts : Counted b
  pub rest : first ts ≡ 0

pub lent_passed : (b : Board) (journal : List ℕ) (ts : List Test) → first (lent_tests (eqb (length journal) journal_bytes) b ts) ≡ 0 → Lent b journal ts
unfolding lent_tests
lent_passed b journal ts p =
    let one = passed _ 0 _ p in
    let two = passed _ 1 _ one.1 in
    record {
      bytes = eqb-true (length journal) journal_bytes (not-false _ one.0);
      counts = board_counts b (not-false _ two.0);
      rest = two.1;
    }

-- ---- what writing and readings test of a board and its journal

-- what is unsound has a number
pub unsound_numbered : (e : Unsound) → (unsound_refusal e).number ≡ 0 → ⊥
unsound_numbered (Slot index) p = omega (arith, p)
unsound_numbered (Check index) p = omega (arith, p)

module _ (fits : Bool) (b : Board) (journal : List ℕ) (n : ℕ) (e : n ≡ first (lent_tests fits b [])) where
  pub lent_refuses : (n ≡ 0 → ⊥) → refusal n 0 0 ≡ journal_refusal fits b journal
  unfolding journal_refusal
  lent_refuses h = sym (or_else_by _ _ (refusal n 0 0) (ap (λ (k : ℕ). refusal k 0 0) (sym e)) h)

  pub slots_decide : n ≡ 0 → first_refused (unsound_slot b.given journal) b.made 1 ≡ journal_refusal fits b journal
  unfolding journal_refusal
  slots_decide p = sym (or_else_passed _ _ (sym e ∙ p))

  pub lent_counts : n ≡ 0 → Counted b
  unfolding lent_tests
  lent_counts p = board_counts b (not-false _ (passed _ 1 _ (passed _ 0 _ (sym e ∙ p)).1).0)

-- ---- place, erase and the pencil

module _ (b : Board) (journal : List ℕ) (p : Play) (n : ℕ) (e : n ≡ first (call_tests b journal p)) where
  pub play_refused : (n ≡ 0 → ⊥) → played (refusal n 0 0) b journal ≡ play_of b journal p
  unfolding play_of
  play_refused h =
      ap (λ (k : ℕ). played (refusal k 0 0) b journal) e
      ∙ sym (pick_false (eqb (first (call_tests b journal p)) 0) (record_move b journal (move_for (state_of b) p)) (played (refusal (first (call_tests b journal p)) 0 0) b journal) (ne_eqb (first (call_tests b journal p)) 0 (λ z. h (e ∙ z))))

  pub play_made : n ≡ 0 → record_move b journal (move_for (state_of b) p) ≡ play_of b journal p
  unfolding play_of
  play_made z =
      sym (pick_true (eqb (first (call_tests b journal p)) 0) (record_move b journal (move_for (state_of b) p)) (played (refusal (first (call_tests b journal p)) 0 0) b journal) (eq-eqb (first (call_tests b journal p)) 0 (sym e ∙ z)))

  pub play_room : n ≡ 0 → slot_bytes * b.standing + slot_bytes ≤ length journal
  unfolding call_tests
  play_room z =
      let lent : Lent b journal (play_tests (state_of b) p ++ ((eqb b.standing max_moves ⇒ 15) ∷ [])) = lent_passed b journal _ (sym e ∙ z) in
      let last = join_last (play_tests (state_of b) p) ((eqb b.standing max_moves ⇒ 15) ∷ []) (plays_numbered (state_of b) p) lent.rest in
      let below = eqb-false b.standing max_moves (passed (eqb b.standing max_moves) 14 [] last).0 in
      room below lent.counts lent.bytes
    where
      room : (b.standing ≡ max_moves → ⊥) → Counted b → length journal ≡ journal_bytes → slot_bytes * b.standing + slot_bytes ≤ length journal
      room h c q = omega (arith, h, c.made, c.standing, q)

-- ---- undo and redo

-- a refusal of undo or redo by a number k: 14 has the slot's number as its place
pub slot_plain : (k n slot : ℕ) → k < 14 → k ≡ n → refusal k 0 0 ≡ slot_refusal n slot
unfolding slot_refusal
slot_plain k n slot l e =
    ap (λ (x : ℕ). refusal x 0 0) e
    ∙ ap (λ (x : ℕ). refusal n x 0) (sym (pick_false (eqb n 14) slot 0 (ne_eqb n 14 (λ p. omega (arith, e, p, l)))))

pub slot_14 : (n slot : ℕ) → 14 ≡ n → refusal 14 slot 0 ≡ slot_refusal n slot
unfolding slot_refusal
slot_14 n slot e =
    ap (λ (x : ℕ). refusal x slot 0) e ∙ ap (λ (x : ℕ). refusal n x 0) (sym (pick_true (eqb n 14) slot 0 (eq-eqb n 14 (sym e))))

-- ---- the check

module _ (b : Board) (checks : List ℕ) (row column n : ℕ) (e : n ≡ first (check_tests b checks row column)) where
  pub check_refused : (n ≡ 0 → ⊥) → checked (refusal n 0 0) false b checks ≡ check_of b checks row column
  unfolding check_of
  check_refused h =
      ap (λ (k : ℕ). checked (refusal k 0 0) false b checks) e
      ∙ sym (pick_false _ _ _ (ne_eqb (first (check_tests b checks row column)) 0 (λ p. h (e ∙ p))))

  pub check_made :
      n ≡ 0
      → checked accepted (check_on b row column).right (with_check b) (over checks (check_bytes * b.checks) (stored_bytes (check_on b row column)))
      ≡ check_of b checks row column
  unfolding check_of
  check_made p = sym (pick_true _ _ _ (eq-eqb (first (check_tests b checks row column)) 0 (sym e ∙ p)))

  -- an accepted check has room: the memory has its length, and fewer checks than it holds are stored
  pub check_room : n ≡ 0 → (length checks ≡ check_memory) × (b.checks < max_checks)
  unfolding check_tests lent_tests
  check_room p =
      let one = passed _ 0 _ (sym e ∙ p) in
      let two = passed _ 1 _ one.1 in
      let three = passed _ 2 _ two.1 in
      let four = passed _ 3 _ three.1 in
      let six = passed _ 5 _ four.1 in
      let last = passed _ 15 _ six.1 in
      (eqb-true (length checks) check_memory (not-false _ one.0), fewer (board_counts b (not-false _ two.0)) (eqb-false b.checks max_checks last.0))
    where
      fewer : Counted b → (b.checks ≡ max_checks → ⊥) → b.checks < max_checks
      fewer c h = omega (arith, c.checks, h)
