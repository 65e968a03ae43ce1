-- Position k: mark 1 at (1,1) is pencilled, so written and struck in turn, until
-- the journal's 1,024 slots are full, by induction over the turns.
-- After each turn the board is the opened one again but for its counts, and
-- the latest slot is the strike's; so the next turn goes like the first.
-- Assumes nothing.
use Prim.Native.Nat.{ℕ, zero, suc, ◌+◌, ◌-◌, ◌*◌, ◌≤◌, ◌<◌}
use mathlib.Core.Path.{◌≡◌, refl, sym, ap, ◌∙◌}
use mathlib.Core.Bool.{true, false, not}
use mathlib.Core.List.{List, [], ◌∷◌, ◌++◌}
use native.Mathlib.Omega.{arith}
use borrow.Author.Tests.{le-leb, ne_eqb}
use lib.Dec.{eqb}
use lib.ListN.{length, replicate, length-replicate}
use Rattle.sudoku.specs.Tests.{pick, both, first, ◌⇒◌}
use Rattle.puzzle.specs.Refusals.{refusal, accepted}
use Rattle.puzzle.specs.Givens.{triples}
use Rattle.journal.specs.declared.Move.TheVariants.{StrikeMark}
use Rattle.journal.specs.declared.Slot.{Slot}
use Rattle.journal.specs.Limits.{max_moves, slot_bytes, journal_bytes}
use Rattle.journal.specs.Bytes.{over}
use Rattle.journal.specs.Slots.{slot_at, bytes_of}
use Rattle.journal.specs.Counts.{counts}
use Rattle.journal.specs.State.{opening, with_notes}
use Rattle.board.specs.declared.Board.{Board}
use Rattle.board.specs.Board.{state_of, board_of, is_board, moved, lent_tests}
use Rattle.board.specs.declared.Answer.{Answer}
use Rattle.board.specs.Open.{no_checks, no_moves, answer, opened_fresh}
use Rattle.play.specs.declared.Play.{Play}
use Rattle.play.specs.declared.Play.TheVariants.{Pencil}
use Rattle.play.specs.Play.{Played, played, play_of, record_move, play_tests, move_for, call_tests, undo_of, undone, can_take_back, slot_refusal}
use Rattle.calls.specs.declared.Call.{Call}
use Rattle.calls.specs.declared.Call.TheVariants.{Undo}
use Rattle.calls.specs.Session.{Session, called, call_of, answers, started}
use Rattle.demands.specs.Positions.{solution_g, givens_e, numbers, pencil, in_turn, RowK}
use Rattle.journal.proofs.Memory.{length_over, bytes_length, slot_written}
use Rattle.demands.proofs.Plays.{recorded_one}
use Rattle.demands.proofs.Computing.{computing}

-- ---- a board with mark 1 written at (1,1) or not, and as many moves made as stand

unfoldable with_note : ℕ → ℕ → Board
with_note note n = board_of (with_notes (opening []) (note ∷ replicate 80 0)) solution_g (counts n n) 0

empty_is_board : (n : ℕ) → n ≤ max_moves → is_board (with_note 0 n) ≡ true
unfolding computing with_note
empty_is_board n h = λ i. both (le-leb n max_moves h i) (both (le-leb n n (omega arith) i) true)

marked_is_board : (n : ℕ) → n ≤ max_moves → is_board (with_note 2 n) ≡ true
unfolding computing with_note
marked_is_board n h = λ i. both (le-leb n max_moves h i) (both (le-leb n n (omega arith) i) true)

-- ---- a call past its first two tests

play_by : (b : Board) (journal : List ℕ) (a : Play) (n : ℕ)
    → length journal ≡ journal_bytes
    → is_board b ≡ true
    → first (play_tests (state_of b) a ++ ((eqb b.standing max_moves ⇒ 15) ∷ [])) ≡ n
    → play_of b journal a ≡ pick (eqb n 0) (record_move b journal (move_for (state_of b) a)) (played (refusal n 0 0) b journal)
unfolding play_of call_tests lent_tests first pick
play_by b journal a n l ok e =
    ap (λ (k : ℕ). pick (eqb k 0) (record_move b journal (move_for (state_of b) a)) (played (refusal k 0 0) b journal))
    ((λ i. first
    ((not (eqb (l i) journal_bytes) ⇒ 1) ∷ (not (ok i) ⇒ 2) ∷ (play_tests (state_of b) a ++ ((eqb b.standing max_moves ⇒ 15) ∷ []))))
    ∙ e)

not_full : (n : ℕ) → n < max_moves → eqb n max_moves ≡ false
not_full n h = ne_eqb n max_moves (λ e. absurd (omega (arith, e)))

-- ---- a turn: the mark written, then struck

-- the slots of the two moves: kind 4 and kind 5
abbrev slot : ℕ → Slot
slot kind = record { kind = kind; row = 1; column = 1; digit = 1; before = 0; struck = 0 }

written : (n : ℕ) (journal : List ℕ) → n < max_moves → length journal ≡ journal_bytes
    → play_of (with_note 0 n) journal (Pencil 1 1 1) ≡ played accepted (with_note 2 (n + 1)) (over journal (slot_bytes * n) (bytes_of (slot 4)))
unfolding computing with_note
written n journal h l =
    play_by (with_note 0 n) journal (Pencil 1 1 1) 0 l (empty_is_board n (omega arith)) (λ i. pick (not_full n h i) 15 0)
    ∙ (λ i. played accepted (moved (with_note 2 n) (state_of (with_note 2 n)) (recorded_one n n (omega arith) h i)) (over journal (slot_bytes * n) (bytes_of (slot 4))))

struck : (n : ℕ) (journal : List ℕ) → n < max_moves → length journal ≡ journal_bytes
    → play_of (with_note 2 n) journal (Pencil 1 1 1) ≡ played accepted (with_note 0 (n + 1)) (over journal (slot_bytes * n) (bytes_of (slot 5)))
unfolding computing with_note
struck n journal h l =
    play_by (with_note 2 n) journal (Pencil 1 1 1) 0 l (marked_is_board n (omega arith)) (λ i. pick (not_full n h i) 15 0)
    ∙ (λ i. played accepted (moved (with_note 0 n) (state_of (with_note 0 n)) (recorded_one n n (omega arith) h i)) (over journal (slot_bytes * n) (bytes_of (slot 5))))

-- a session with this board and journal and no check stored, and
-- the numbers that a call's answer and the calls after it give
unfoldable with : Board → List ℕ → Session
with b journal = record { board = b; journal = journal; checks = no_checks }

unfoldable from : Played → List Call → List ℕ
from p calls = p.answer.refusal.number ∷ numbers (with p.answer.board p.journal) calls

-- the journal after a turn
unfoldable turned : ℕ → List ℕ → List ℕ
turned n journal = over (over journal (slot_bytes * n) (bytes_of (slot 4))) (slot_bytes * (n + 1)) (bytes_of (slot 5))

module _ (n : ℕ) (journal : List ℕ) (h : n + 1 < max_moves) (l : length journal ≡ journal_bytes) where
  after_write : length (over journal (slot_bytes * n) (bytes_of (slot 4))) ≡ journal_bytes
  after_write = length_over journal (slot_bytes * n) (bytes_of (slot 4)) (omega (arith, l, bytes_length (slot 4))) ∙ l

  after_strike : length (turned n journal) ≡ journal_bytes
  unfolding turned
  after_strike =
      length_over (over journal (slot_bytes * n) (bytes_of (slot 4))) (slot_bytes * (n + 1)) (bytes_of (slot 5))
      (omega (arith, after_write, bytes_length (slot 5)))
      ∙ after_write

  -- both are accepted, and the board is as it was but for its counts
  turn : (calls : List Call) → numbers (with (with_note 0 n) journal) (pencil 1 1 1 ∷ pencil 1 1 1 ∷ calls)
      ≡ 0 ∷ 0 ∷ numbers (with (with_note 0 (n + 1 + 1)) (turned n journal)) calls
  unfolding numbers with from answers call_of called turned
  turn calls =
      ap (λ (p : Played). from p (pencil 1 1 1 ∷ calls)) (written n journal (omega arith) l)
      ∙ ap (λ (p : Played). 0 ∷ from p calls) (struck (n + 1) (over journal (slot_bytes * n) (bytes_of (slot 4))) h after_write)

  -- the latest slot is the strike's
  latest : slot_at (turned n journal) (n + 1 + 1) ≡ slot 5
  unfolding turned
  latest = slot_written (over journal (slot_bytes * n) (bytes_of (slot 4))) (n + 1) (slot 5) (omega (arith, after_write)) (omega arith)

-- ---- the journal full: pencilled again; undone, struck

-- the board after the undo
unfoldable mark_back : Board
mark_back = board_of (with_notes (opening []) (2 ∷ replicate 80 0)) solution_g (counts max_moves (max_moves - 1)) 0

module _ (journal : List ℕ) (l : length journal ≡ journal_bytes) where
  written_again : play_of (with_note 0 max_moves) journal (Pencil 1 1 1) ≡ played (refusal 15 0 0) (with_note 0 max_moves) journal
  unfolding computing with_note
  written_again = play_by (with_note 0 max_moves) journal (Pencil 1 1 1) 15 l (empty_is_board max_moves (omega arith)) refl

  undo_full : slot_at journal max_moves ≡ slot 5 → undo_of (with_note 0 max_moves) journal ≡ answer accepted mark_back
  unfolding computing with_note mark_back
  undo_full e = λ i.
      let n : ℕ = first
      ((not (eqb (l i) journal_bytes) ⇒ 1)
      ∷ (not (is_board (with_note 0 max_moves)) ⇒ 2)
      ∷ (false ⇒ 4)
      ∷ (false ⇒ 12)
      ∷ (not (can_take_back (state_of (with_note 0 max_moves)) (e i)) ⇒ 14)
      ∷ []) in
      pick (eqb n 0) (answer accepted (undone (with_note 0 max_moves) (e i))) (answer (slot_refusal n max_moves) (with_note 0 max_moves))

  struck_again : play_of mark_back journal (Pencil 1 1 1) ≡ record_move mark_back journal (StrikeMark 1 1 1)
  unfolding computing mark_back
  struck_again = play_by mark_back journal (Pencil 1 1 1) 0 l refl refl

  full : slot_at journal max_moves ≡ slot 5
      → numbers (with (with_note 0 max_moves) journal) (pencil 1 1 1 ∷ Undo ∷ pencil 1 1 1 ∷ []) ≡ 15 ∷ 0 ∷ 0 ∷ []
  unfolding numbers with from answers call_of called record_move
  full e =
      ap (λ (p : Played). from p (Undo ∷ pencil 1 1 1 ∷ [])) written_again
      ∙ ap (λ (a : Answer). 15 ∷ a.refusal.number ∷ numbers (with a.board journal) (pencil 1 1 1 ∷ [])) (undo_full e)
      ∙ ap (λ (p : Played). 15 ∷ 0 ∷ from p []) struck_again

-- ---- all turns

unfoldable answered : ℕ → List ℕ
answered zero = 15 ∷ 0 ∷ 0 ∷ []
answered (suc m) = 0 ∷ 0 ∷ answered m

-- m turns are left after n moves. Where none is left, the latest slot is the strike's
turns : (m n : ℕ) (journal : List ℕ) → n + 2 * m ≡ max_moves → length journal ≡ journal_bytes → (m ≡ 0 → slot_at journal n ≡ slot 5)
    → numbers (with (with_note 0 n) journal) (in_turn m ++ pencil 1 1 1 ∷ Undo ∷ pencil 1 1 1 ∷ []) ≡ answered m
unfolding in_turn answered
turns zero n journal s l e =
    ap (λ (k : ℕ). numbers (with (with_note 0 k) journal) (pencil 1 1 1 ∷ Undo ∷ pencil 1 1 1 ∷ [])) full_count
    ∙ full journal l (ap (slot_at journal) (sym full_count) ∙ e refl)
  where
    full_count : n ≡ max_moves
    full_count = omega (arith, s)
turns (suc m) n journal s l e =
    turn n journal (omega (arith, s)) l (in_turn m ++ pencil 1 1 1 ∷ Undo ∷ pencil 1 1 1 ∷ [])
    ∙ ap (λ (k : List ℕ). 0 ∷ 0 ∷ k)
    (turns m (n + 1 + 1) (turned n journal) (omega (arith, s)) (after_strike n journal (omega (arith, s)) l) (λ _. latest n journal (omega (arith, s)) l))

in_turn_lem : (s : Session) → s ≡ with (with_note 0 0) no_moves → RowK s
unfolding answered no_moves
in_turn_lem s e =
    record {
      answered =
          ap (λ (s : Session). numbers s (in_turn 512 ++ pencil 1 1 1 ∷ Undo ∷ pencil 1 1 1 ∷ [])) e
          ∙ turns 512 0 no_moves refl (length-replicate {A = ℕ} journal_bytes 0) (λ e. absurd (omega (arith, e)));
    }

pub row_k : RowK (started (opened_fresh (triples givens_e) solution_g))
unfolding computing with with_note
row_k = in_turn_lem (started (opened_fresh (triples givens_e) solution_g)) refl
