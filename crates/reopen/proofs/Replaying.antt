-- Moves of a record performed one after the other: 28, 29, or on to the next; what is left to perform decides.
-- Assumes nothing.
use Prim.Native.Nat.{ℕ, suc, ◌+◌, ◌-◌, ◌*◌, ◌≤◌, ◌<◌, min}
use mathlib.Core.Path.{◌≡◌, sym, ap, ◌∙◌}
use mathlib.Core.List.{List, ◌∷◌}
use native.Mathlib.Numerals.{add-one}
use native.Mathlib.Omega.{arith}
use lib.Dec.{leb, eqb}
use lib.ListN.{length}
use Rattle.puzzle.specs.Givens.{is_on}
use Rattle.sudoku.specs.Tests.{first}
use Rattle.sudoku.proofs.Walks.{by_test, pick_true, pick_false, left_one}
use Rattle.puzzle.specs.declared.Refusal.{Refusal}
use Rattle.puzzle.specs.Refusals.{accepted}
use Rattle.journal.specs.declared.Counts.{Counts}
use Rattle.journal.specs.declared.Move.{Move}
use Rattle.journal.specs.Counts.{counts, recorded}
use Rattle.board.specs.declared.Board.{Board}
use Rattle.journal.specs.Limits.{max_moves, slot_bytes}
use Rattle.journal.specs.Code.Laid.{laid}
use Rattle.journal.specs.State.{perform}
use Rattle.journal.specs.Slots.{slot_for, bytes_of}
use Rattle.journal.proofs.Stores.{laid_over}
use Rattle.board.specs.Board.{state_of, counts_of, moved}
use Rattle.play.specs.Play.{Played, played, move_tests, record_move}
use Rattle.record.specs.declared.Item.TheVariants.{Played as PlayedItem}
use Rattle.record.specs.Items.{encode}
use Rattle.record.specs.Code.Counting.{move_at}
use Rattle.record.specs.Reopen.{replay}
use Rattle.reopen.specs.Code.Reopening.{moves_at, next_refusal}

pub recorded_le : (c : Counts) → (recorded c).standing ≤ c.standing + 1
unfolding recorded
recorded_le c =
    by_test (leb max_moves c.standing)
    (λ t. omega (arith, ap (λ (x : Counts). x.standing) (pick_true _ c (counts (min c.made c.standing + 1) (min c.made c.standing + 1)) t)))
    (λ t. omega (arith, ap (λ (x : Counts). x.standing) (pick_false _ c (counts (min c.made c.standing + 1) (min c.made c.standing + 1)) t)))

-- ---- one move, and those behind it

module _ (b : Board) (journal : List ℕ) (k : ℕ) (m : Move) where
  abbrev number : ℕ
  number = first (move_tests (state_of b) m)

  replay_stops : (ms : List Move) (r : Refusal) → r ≡ next_refusal (state_of b) k m → (r.number ≡ 0 → ⊥) → replay b journal k (m ∷ ms) ≡ played r b journal
  unfolding replay next_refusal state_of
  replay_stops ms r e n =
      by_test (is_on b.solved)
      (λ t. pick_true _ _ _ t ∙ ap (λ (x : Refusal). played x b journal) (sym (e ∙ pick_true _ _ _ t)))
      (λ t.
      by_test (eqb number 0)
      (λ u. absurd (n (ap (λ (x : Refusal). x.number) (e ∙ pick_false _ _ _ t ∙ pick_true _ _ _ u))))
      (λ u.
      pick_false _ _ _ t
      ∙ pick_false _ _ _ u
      ∙ ap (λ (x : Refusal). played x b journal) (sym (e ∙ pick_false _ _ _ t ∙ pick_false _ _ _ u))))

  module _ (goes : accepted ≡ next_refusal (state_of b) k m) where
    replay_goes_on : (ms : List Move) → replay b journal k (m ∷ ms) ≡ replay (record_move b journal m).answer.board (record_move b journal m).journal (suc k) ms
    unfolding replay next_refusal state_of
    replay_goes_on ms =
        by_test (is_on b.solved)
        (λ t. let no : 0 ≡ 28 = ap (λ (x : Refusal). x.number) (goes ∙ pick_true _ _ _ t) in absurd (omega (arith, no)))
        (λ t.
        by_test (eqb number 0) (λ u. pick_false _ _ _ t ∙ pick_true _ _ _ u)
        (λ u.
        let no : 0 ≡ 29 = ap (λ (x : Refusal). x.number) (goes ∙ pick_false _ _ _ t ∙ pick_false _ _ _ u) in
        absurd (omega (arith, no))))

  -- the move made and recorded: the board afterwards, and the journal
  next_made : (after : Board) → after ≡ moved b (perform (state_of b) m) (recorded (counts_of b)) → after ≡ (record_move b journal m).answer.board
  unfolding record_move
  next_made after e = e

  next_wrote : (out : List ℕ) → out ≡ laid journal (slot_bytes * b.standing) (bytes_of (slot_for (state_of b) m)) → slot_bytes * b.standing + slot_bytes ≤ length journal
      → out ≡ (record_move b journal m).journal
  unfolding record_move bytes_of
  next_wrote out e room = e ∙ laid_over _ _ _ room

-- a turn of the loop
module _ (bytes : List ℕ) (at k count : ℕ) (b : Board) (journal : List ℕ) (m : Move) (is : m ≡ move_at bytes at) (h : k < count + 1) where
  abbrev left : List Move
  left = moves_at bytes at (count + 1 - k)

  left_is : left ≡ m ∷ moves_at bytes (at + length (encode (PlayedItem m))) (count + 1 - (k + 1))
  unfolding moves_at
  left_is =
      ap (moves_at bytes at) (left_one (count + 1) k h)
      ∙ ap (λ (x : Move). x ∷ moves_at bytes (at + length (encode (PlayedItem x))) (count + 1 - (k + 1))) (sym is)

  pub turn_stops : (r : Refusal) → r ≡ next_refusal (state_of b) k m → (r.number ≡ 0 → ⊥) → r ≡ (replay b journal k left).answer.refusal
  turn_stops r e n = sym (ap (λ (x : Played). x.answer.refusal) (ap (replay b journal k) left_is ∙ replay_stops b journal k m _ r e n))

  pub turn_goes_on : accepted ≡ next_refusal (state_of b) k m → (c : Board) (out : List ℕ)
      → (c ≡ moved b (perform (state_of b) m) (recorded (counts_of b))) × (out ≡ laid journal (slot_bytes * b.standing) (bytes_of (slot_for (state_of b) m)))
      → slot_bytes * b.standing + slot_bytes ≤ length journal
      → (size : ℕ) → size ≡ length (encode (PlayedItem m))
      → (all : Played) → replay b journal k left ≡ all → replay c out (k + 1) (moves_at bytes (at + size) (count + 1 - (k + 1))) ≡ all
  turn_goes_on goes c out made room size w all e =
      (λ j. replay (next_made b journal k m c made.0 j) (next_wrote b journal k m out made.1 room j) (add-one k j) (moves_at bytes (at + w j) (count + 1 - (k + 1))))
      ∙ sym (ap (replay b journal k) left_is ∙ replay_goes_on b journal k m goes _)
      ∙ e

-- nothing is left
pub replay_ends : (bytes : List ℕ) (at k count : ℕ) (b : Board) (journal : List ℕ) (all : Played) → count + 1 ≤ k → replay b journal k (moves_at bytes at (count + 1 - k)) ≡ all
    → (accepted ≡ all.answer.refusal) × ((b ≡ all.answer.board) × (journal ≡ all.journal))
unfolding replay moves_at
replay_ends bytes at k count b journal all h e =
    let z : 0 ≡ count + 1 - k = omega arith in
    let end = ap (λ (n : ℕ). replay b journal k (moves_at bytes at n)) z ∙ e in
    (ap (λ (x : Played). x.answer.refusal) end, (ap (λ (x : Played). x.answer.board) end, ap (λ (x : Played). x.journal) end))
