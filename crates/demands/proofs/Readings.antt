-- The theorem of readings, proved: slots 1 to n of a board that holds a
-- book, applied to its givens, lead to the book's state after n moves; slot
-- n is that of the book's move n; and beyond made a reading is refused by 35.
-- Assumes nothing.
use Prim.Native.Nat.{ℕ, zero, suc, ◌+◌, ◌-◌, ◌≤◌, ◌<◌}
use mathlib.Core.Path.{◌≡◌, refl, sym, ap, ◌∙◌}
use mathlib.Core.Bool.{true, false, not}
use mathlib.Core.List.{List}
use native.Mathlib.Numerals.{add-one}
use native.Mathlib.Omega.{arith}
use lib.ListN.{length, get_or, take, replicate}
use lib.Seq.{ext_get_or}
use lib.Dec.{leb, ltb, eqb}
use borrow.Author.Tests.{eq-eqb, ne_eqb, le-leb, lt-leb}
use Rattle.sudoku.specs.Tests.{pick, both, run, listed}
use Rattle.sudoku.specs.Grid.{is_cell, at}
use Rattle.sudoku.proofs.Grid.{is_cell_lem}
use Rattle.sudoku.proofs.Listed.{length_listed, listed_at}
use Rattle.sudoku.proofs.Walks.{by_test, pick_true, pick_false, both_true, both_false_left, both_false_right, run_last}
use Rattle.puzzle.specs.declared.Refusal.{Refusal}
use Rattle.puzzle.specs.Refusals.{refusal, accepted, is_accepted}
use Rattle.puzzle.specs.Givens.{digits_of, is_given}
use Rattle.puzzle.proofs.Accepted.{accepts, if_not, or_else_next, or_else_of}
use Rattle.puzzle.proofs.Refusals.{refused_if_lem}
use Rattle.journal.specs.declared.Move.{Move}
use Rattle.journal.specs.Limits.{journal_bytes}
use Rattle.journal.specs.State.{State, opening, digit_at, perform, perform_again, struck}
use Rattle.journal.specs.Slots.{slot_for, slot_at, move_of}
use Rattle.journal.proofs.Moves.{performed_again, move_kept}
use Rattle.board.specs.declared.Board.{Board}
use Rattle.board.specs.Board.{state_of, board_of}
use Rattle.play.specs.Play.{journal_refusal}
use Rattle.readings.specs.declared.Reading.{Reading}
use Rattle.readings.specs.Reading.{opening_of, apply_slot, state_after, reading_refusal, reading, no_reading, reading_of}
use Rattle.calls.specs.Session.{Session}
use Rattle.demands.specs.Book.{Book, made, perform_all, state_in}
use Rattle.demands.specs.Demand3.{board_in}
use Rattle.demands.specs.Readings.{move_at, state_at, reading_in, read_session, Reads, ReadsItself, ReadingsTheorem}
use Rattle.demands.proofs.Plays.{move_no, plays_take, plays_next, perform_next}
use Rattle.demands.proofs.Refusals.{passes_allowed}
use Rattle.demands.proofs.Opening.{opening_digit, opening_free, opening_fit}
use Rattle.demands.proofs.Reached.{reached_fit, reached_digit}
use Rattle.demands.proofs.Good.{Good, standing_plays, good_given, good_is_given}
use Rattle.demands.proofs.Held.{Held, held_slot}
use Rattle.demands.proofs.Steps.{session_of}
use Rattle.demands.proofs.Lists.{of_book}
use Rattle.demands.proofs.Writing.{journal_accepted}

-- a list of 81 entries is what a function lists, where the two agree at every cell
listed_cells : (f : ℕ → ℕ) (l : List ℕ) → length l ≡ 81 → ((cell : ℕ) → is_cell cell ≡ true → f cell ≡ at l cell) → listed f 81 1 ≡ l
unfolding at
listed_cells f l e h =
    ext_get_or 0 (listed f 81 1) l (length_listed f 81 1 ∙ sym e)
    (λ i u.
    let below : i < 81 = omega (arith, u, length_listed f 81 1) in
    listed_at f 81 1 i 0 below
    ∙ h (1 + i) (is_cell_lem (1 + i) (omega arith) (omega arith))
    ∙ ap (λ (n : ℕ). get_or l n 0) {x = 1 + i - 1} {y = i} (omega arith))

-- ---- 35, and what a reading is, by the number of its refusal

module _ (k made : ℕ) where
  none_read : k ≡ 0 → not (both (leb 1 k) (leb k made)) ≡ true
  none_read p = ap not (both_false_left (leb 1 k) (leb k made) (lt-leb 1 k (omega (arith, p))))

  beyond_made : made < k → not (both (leb 1 k) (leb k made)) ≡ true
  beyond_made h = ap not (both_false_right (leb 1 k) (leb k made) (lt-leb k made h))

  was_made : (k ≡ 0 → ⊥) → k ≤ made → not (both (leb 1 k) (leb k made)) ≡ false
  was_made n h = ap not (both_true (leb 1 k) (leb k made) (le-leb 1 k (omega (arith, n))) (le-leb k made h))

module _ (b : Board) (journal : List ℕ) (k : ℕ) where
  not_read : ((reading_refusal b journal k).number ≡ 0 → ⊥) → no_reading (reading_refusal b journal k) ≡ reading_of b journal k
  unfolding reading_of is_accepted
  not_read h = sym (pick_false _ _ _ (ne_eqb (reading_refusal b journal k).number 0 h))

  is_read : (reading_refusal b journal k).number ≡ 0 → reading b journal k ≡ reading_of b journal k
  unfolding reading_of is_accepted
  is_read p = sym (pick_true _ _ _ (eq-eqb (reading_refusal b journal k).number 0 p))

-- ---- the givens and empty notes

module _ (k : Book) (g : Good k) where
  -- what the board holds at a given is what the opening held there
  given_kept : (cell : ℕ) → is_cell cell ≡ true → pick (is_given (state_in k).given cell) (at (state_in k).digits cell) 0 ≡ at (digits_of k.givens) cell
  unfolding state_in digit_at opening
  given_kept cell is =
      by_test (is_given (opening k.givens).given cell)
      (λ t.
      pick_true _ _ _ (good_is_given k g cell ∙ t)
      ∙ reached_digit k.givens k.solution g.opens (take k.standing k.moves) (standing_plays k g) cell is t
      ∙ sym (opening_digit k.givens k.solution g.opens cell is t))
      (λ t.
      pick_false _ _ _ (good_is_given k g cell ∙ t)
      ∙ sym (opening_free k.givens k.solution g.opens cell is t))

  same_given : (state_in k).given ≡ (opening k.givens).given
  unfolding opening
  same_given = good_given k g

  same_opening : opening_of (board_in k) ≡ opening k.givens
  unfolding opening_of board_in board_of state_of opening
  same_opening =
      λ i.
      record {
        given = same_given i;
        digits =
            listed_cells (λ (cell : ℕ). pick (is_given (state_in k).given cell) (at (state_in k).digits cell) 0) (digits_of k.givens)
            (opening_fit k.givens k.solution g.opens).digits_81 given_kept i;
        notes = replicate 81 0;
        solved = 0;
      }

module _ (k : Book) (journal checks : List ℕ) (g : Good k) (h : Held journal checks k) where
  -- ---- one slot after the other

  -- slot n + 1, applied as recorded to the state before its move, performs the move
  slot_performs : (n : ℕ) → n < made k → apply_slot journal (state_at k n) (1 + n) ≡ perform (state_at k n) (move_no k.moves n)
  unfolding apply_slot slot_for state_at made
  slot_performs n u =
      ap (λ (i : ℕ). perform_again was (move_of (slot_at journal i)) (slot_at journal i).struck) {x = 1 + n} {y = n + 1} (omega arith)
      ∙ (λ i. perform_again was (move_of (held_slot journal checks k h n u i)) (held_slot journal checks k h n u i).struck)
      ∙ ap (λ (m : Move). perform_again was m (struck was its)) (move_kept was its)
      ∙ performed_again was its
      (reached_fit k.givens k.solution g.opens (take n k.moves) (plays_take (opening k.givens) k.moves n g.plays))
      (passes_allowed was its (plays_next (opening k.givens) k.moves n u g.plays))
    where
      was : State
      was = perform_all (opening k.givens) (take n k.moves)

      its : Move
      its = move_no k.moves n

  slots_perform : (n : ℕ) → n ≤ made k → state_after (board_in k) journal n ≡ state_at k n
  unfolding state_after state_at perform_all made run
  slots_perform zero u = same_opening k g
  slots_perform (suc n) u =
      ap (λ (i : ℕ). run (apply_slot journal) (opening_of (board_in k)) i 1) (sym (add-one n))
      ∙ run_last (apply_slot journal) (opening_of (board_in k)) n 1
      ∙ ap (λ (s : State). apply_slot journal s (1 + n)) (slots_perform n (omega (arith, u)))
      ∙ slot_performs n u
      ∙ sym (perform_next (opening k.givens) k.moves n u)

  -- ---- readings

  -- 1, 2 and 14 do not apply
  memory_sound : is_accepted (journal_refusal (eqb (length journal) journal_bytes) (board_in k) journal) ≡ true
  memory_sound =
      accepts _ (journal_accepted k journal checks g h (eqb (length journal) journal_bytes) (eq-eqb (length journal) journal_bytes h.journal_length_lem))

  module _ (n : ℕ) (l : 1 ≤ n) (u : n ≤ made k) where
    not_refused : reading_refusal (board_in k) journal n ≡ accepted
    unfolding reading_refusal board_in board_of made
    not_refused = or_else_of _ _ memory_sound (if_not _ (refusal 35 0 0) (was_made n (length k.moves) (λ p. omega (arith, p, l)) u))

    is_reading : reading_of (board_in k) journal n ≡ reading (board_in k) journal n
    is_reading = sym (is_read (board_in k) journal n (ap (λ (r : Refusal). r.number) not_refused))

    -- slot n is that of move n
    its_slot : slot_at journal n ≡ slot_for (state_at k (n - 1)) (move_at k n)
    unfolding state_at move_at move_no
    its_slot =
        ap (λ (i : ℕ). slot_at journal i) {x = n} {y = n - 1 + 1} (omega arith) ∙ held_slot journal checks k h (n - 1) (omega arith)

    reads : read_session (session_of k journal checks) n ≡ reading_in k n
    unfolding read_session reading reading_in slot_for board_in board_of
    reads =
        is_reading
        ∙ (λ i.
        record {
          refusal = accepted;
          kind = (its_slot i).kind;
          row = (its_slot i).row;
          column = (its_slot i).column;
          digit = (its_slot i).digit;
          undone = ltb k.standing n;
          index = n;
          digits = (slots_perform n u i).digits;
          notes = (slots_perform n u i).notes;
        })

  module _ (n : ℕ) (t : not (both (leb 1 n) (leb n (made k))) ≡ true) where
    refused_35 : reading_refusal (board_in k) journal n ≡ refusal 35 0 0
    unfolding reading_refusal board_in board_of
    refused_35 = or_else_next _ _ memory_sound ∙ refused_if_lem _ (refusal 35 0 0) t

    unread : read_session (session_of k journal checks) n ≡ no_reading (refusal 35 0 0)
    unfolding read_session
    unread =
        sym (not_read (board_in k) journal n (λ e. omega (arith, e, ap (λ (r : Refusal). r.number) refused_35))) ∙ ap no_reading refused_35

  reads_all : Reads (session_of k journal checks) k
  reads_all =
      record { every = reads; none = unread 0 (none_read 0 (made k) refl); beyond = λ n u. unread n (beyond_made n (made k) u) }

  reads_itself : 1 ≤ (board_in k).standing → ReadsItself (session_of k journal checks)
  unfolding read_session reading_in state_at board_in board_of state_in
  reads_itself l =
      let last : read_session (session_of k journal checks) k.standing ≡ reading_in k k.standing = reads k.standing l g.within in
      record { digits = ap (λ (r : Reading). r.digits) last; notes = ap (λ (r : Reading). r.notes) last }

-- ---- every session that calls reach

pub readings : ReadingsTheorem
readings =
    record {
      read = λ s r. of_book s r Reads (λ k journal checks g h. reads_all k journal checks g h);
      standing =
          λ s r.
          of_book s r (λ (x : Session) (k : Book). 1 ≤ x.board.standing → ReadsItself x) (λ k journal checks g h. reads_itself k journal checks g h);
    }
