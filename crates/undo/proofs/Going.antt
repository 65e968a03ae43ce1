-- A call that goes over a recorded move, in two steps, as the code goes: the tests that need no slot, and then the slot.
-- Assumes nothing.
use Prim.Native.Nat.{ℕ, ◌<◌}
use mathlib.Core.Path.{◌≡◌, refl, sym, ap, ◌∙◌}
use mathlib.Core.Bool.{Bool, true, false, not, ◌&&◌}
use mathlib.Core.List.{List, [], ◌∷◌, ◌++◌}
use native.Mathlib.Omega.{arith}
use borrow.Author.Tests.{eq-eqb, ne_eqb}
use lib.ListN.{length}
use Rattle.std.specs.Prelude.{Option, Some, None}
use Rattle.journal.specs.declared.DigitChange.{DigitChange}
use Rattle.sudoku.specs.Tests.{Test, ◌⇒◌, first, pick}
use Rattle.sudoku.specs.Grid.{cell_of}
use Rattle.sudoku.proofs.Walks.{pick_true, pick_false, refused, both_first, both_false_left, and_both}
use Rattle.puzzle.specs.declared.Refusal.{Refusal}
use Rattle.puzzle.specs.Refusals.{refusal, accepted}
use Rattle.journal.specs.declared.Slot.{Slot}
use Rattle.journal.specs.State.{State, put_digit}
use Rattle.journal.specs.Slots.{move_of, digit_change, slot_at, is_sound}
use Rattle.board.specs.declared.Answer.{Answer}
use Rattle.board.specs.declared.Board.{Board}
use Rattle.board.specs.declared.error.PlayError.{PlayError}
use Rattle.board.specs.Board.{state_of, counts_of, board_of, moved, lent_tests}
use Rattle.board.specs.Errors.{play_number, play_refusal}
use Rattle.board.specs.Open.{answer}
use Rattle.board.proofs.Numbers.{last_if}
use Rattle.board.proofs.Told.{Numbered, has_number, told_err, told_ok}
use Rattle.play.proofs.Accepted.{slot_plain, slot_14}
use Rattle.undo.specs.Code.Ways.{Way, Laws, digit_gone, digit_stood, marks_gone, marks_stood, before_slot, fits, call_of}

-- a number below 14 has no place
abbrev Below : List Test → Type 0
Below [] = Unit
Below (t ∷ ts) = (t.number < 14) × Below ts

pick_below : (t : Bool) (n x : ℕ) → n < 14 → x < 14 → pick t n x < 14
unfolding pick
pick_below true n x p q = p
pick_below false n x p q = q

first_below : (ts : List Test) → Below ts → first ts < 14
unfolding first
first_below [] q = omega arith
first_below (t ∷ ts) q = pick_below t.holds t.number (first ts) q.0 (first_below ts q.1)

-- the board of an answer
pub left : (r : Refusal) (b : Board) (a : Answer) → answer r b ≡ a → b ≡ a.board
left r b a e = ap (λ (x : Answer). x.board) e

-- the digit leaves the notes
notes_stay : (w : Way) (s : State) (cell : ℕ) (change : Option DigitChange) → (digit_gone w s cell change).notes ≡ s.notes
unfolding digit_gone put_digit
notes_stay w s cell (Some change) = refl
notes_stay w s cell None = refl

module _ (w : Way) (laws : Laws w) where
  -- what is asked of the parts of a state, where the slot is sound
  pub fits_parts : (s : State) (slot : Slot) → is_sound s.given slot ≡ true → (digit_stood w s.digits (cell_of slot.row slot.column) (digit_change slot) && marks_stood w s.notes (move_of slot) slot.struck) ≡ fits w s slot
  unfolding fits
  fits_parts s slot h = and_both _ _ ∙ laws.stood s slot h ∙ sym (both_first _ _ h)

  -- what is refused before its slot is asked has no place
  pub before_below : (b : Board) (bytes : ℕ) → first (before_slot w b bytes) < 14
  unfolding before_slot lent_tests
  before_below b bytes = first_below _ (omega arith, (omega arith, (omega arith, (laws.below_14 (counts_of b), tt))))

  module _ (b : Board) (journal : List ℕ) where
    -- the slot that is asked
    abbrev asked : Slot
    asked = slot_at journal (w.slot (counts_of b))

    abbrev cell : ℕ
    cell = cell_of asked.row asked.column

    numbered : Numbered (before_slot w b (length journal))
    unfolding before_slot lent_tests
    numbered = (omega arith, (omega arith, (omega arith, (laws.numbered (counts_of b), tt))))

    -- refused before its slot is asked
    pub stopped : (e : PlayError) → play_number e ≡ first (before_slot w b (length journal)) → answer (play_refusal e) b ≡ call_of w b journal
    unfolding call_of
    stopped e p =
        let q = told_err e (before_slot w b (length journal)) ((not (fits w (state_of b) asked) ⇒ 14) ∷ []) p in
        ap (λ r. answer r b) (slot_plain (play_number e) _ (w.slot (counts_of b)) (omega (arith, p, before_below b (length journal))) q)
        ∙ sym (pick_false _ _ _ (ne_eqb _ 0 (λ z. omega (arith, has_number e, q, z))))

    module _ (p : 0 ≡ first (before_slot w b (length journal))) where
      by_the_slot : first (before_slot w b (length journal) ++ ((not (fits w (state_of b) asked) ⇒ 14) ∷ [])) ≡ first ((not (fits w (state_of b) asked) ⇒ 14) ∷ [])
      by_the_slot = told_ok _ _ numbered p

      -- refused by its slot
      unfit : fits w (state_of b) asked ≡ false → answer (refusal 14 (w.slot (counts_of b)) 0) b ≡ call_of w b journal
      unfolding call_of
      unfit h =
          let q : 14 ≡ _ = sym (by_the_slot ∙ refused _ 14 [] (ap not h)) in
          ap (λ r. answer r b) (slot_14 _ (w.slot (counts_of b)) q) ∙ sym (pick_false _ _ _ (ne_eqb _ 0 (λ z. omega (arith, q, z))))

      pub unsound : is_sound b.given asked ≡ false → answer (refusal 14 (w.slot (counts_of b)) 0) b ≡ call_of w b journal
      unfolding fits state_of
      unsound h = unfit (both_false_left _ _ h)

      -- a sound slot, and what was asked of the parts: the digit, and with that gone the marks
      module _ (stood marks : Bool) (board : Board) (h : is_sound b.given asked ≡ true)
          (digit : stood ≡ digit_stood w b.digits cell (digit_change asked))
          (put : board ≡ moved b (digit_gone w (state_of b) cell (digit_change asked)) (counts_of b))
          (mark : marks ≡ marks_stood w board.notes (move_of asked) asked.struck) where
        both_parts : (stood && marks) ≡ fits w (state_of b) asked
        unfolding state_of moved board_of
        both_parts = rw (digit, mark, put, notes_stay w (state_of b) cell (digit_change asked)) (fits_parts (state_of b) asked h)

        pub unfit_parts : (stood && marks) ≡ false → answer (refusal 14 (w.slot (counts_of b)) 0) b ≡ call_of w b journal
        unfit_parts e = unfit (sym both_parts ∙ e)

        -- accepted
        pub gone : (stood && marks) ≡ true → (out : Board)
            → out ≡ moved b (marks_gone w (state_of board) (move_of asked) asked.struck) (w.counts (counts_of b))
            → answer accepted out ≡ call_of w b journal
        unfolding call_of state_of moved board_of counts_of
        gone e out is =
            rw (is, put, laws.whole (state_of b) asked)
            (sym (pick_true _ _ _ (eq-eqb _ 0 (by_the_slot ∙ last_if _ 14 (ap not (sym both_parts ∙ e))))))
