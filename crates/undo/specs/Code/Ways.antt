-- The two ways over recorded moves: back, as undo goes, and again, as redo goes. What differs between
-- them is a record, and each definition that the code follows is one over that record.
-- A recorded move is gone over in two parts, the digit of its cell and the marks. proofs/Laws shows that
-- the two parts are the whole of specs/State, and that of a sound slot they ask the whole.
-- Assumes nothing.
use Rattle.std.specs.Prelude.{ℕ, ◌≤◌, ◌<◌, ◌≡◌, Bool, true, not, List, [], ◌∷◌, ◌++◌, Option, Some, None, eqb, length}
use Rattle.sudoku.specs.Tests.{Test, ◌⇒◌, first, pick, both}
use Rattle.sudoku.specs.Grid.{cell_of, at, peers_of}
use Rattle.note.specs.Note.{contains}
use Rattle.puzzle.specs.Givens.{is_on}
use Rattle.puzzle.specs.Refusals.{accepted}
use Rattle.journal.specs.declared.Counts.{Counts}
use Rattle.journal.specs.declared.DigitChange.{DigitChange}
use Rattle.journal.specs.declared.Move.{Move}
use Rattle.journal.specs.declared.Move.TheVariants.{Place, Erase, WriteMark, StrikeMark}
use Rattle.journal.specs.declared.Slot.{Slot}
use Rattle.journal.specs.Limits.{journal_bytes}
use Rattle.journal.specs.Counts.{taken_back, retaken}
use Rattle.journal.specs.State.{State, with_notes, put_digit, write_at, strike_at, write_masked, strike_masked, perform_again, take_back, stands_as_left, stands_as_found}
use Rattle.journal.specs.Slots.{slot_at, move_of, digit_change, is_sound}
use Rattle.journal.specs.Code.InTurn.{lack_in_turn, none_missing_in_turn}
use Rattle.board.specs.declared.Board.{Board}
use Rattle.board.specs.declared.Answer.{Answer}
use Rattle.board.specs.Board.{state_of, counts_of, moved, lent_tests}
use Rattle.board.specs.Open.{answer}
use Rattle.play.specs.Play.{slot_refusal}
use Rattle.play.specs.Code.Turns.{latest_none, latest_at, next_none, next_at}

pub record Way : Type 0 where
  -- 12 or 13: there is no move to go over
  pub none : Counts → Test
  -- the number of its slot
  pub slot : Counts → ℕ
  -- the change of its digit, as it is made now
  pub turned : DigitChange → DigitChange
  -- a mark that it wrote at a cell, and whether the cell's note is then as it must be
  pub written : List ℕ → ℕ → ℕ → List ℕ
  pub written_stood : ℕ → ℕ → Bool
  -- a mark that it struck at a cell
  pub struck : List ℕ → ℕ → ℕ → List ℕ
  pub struck_stood : ℕ → ℕ → Bool
  -- the marks that it struck from the peers in its mask
  pub displaced : List ℕ → ℕ → ℕ → List ℕ → List ℕ
  pub displaced_stood : List ℕ → ℕ → ℕ → List ℕ → Bool
  -- the whole move gone over, and whether what it changed stands as it must before
  pub whole : State → Slot → State
  pub stood : State → Slot → Bool
  -- the counts afterwards
  pub counts : Counts → Counts

-- back: the digit before, and exactly the marks that were struck, or the mark changed
abbrev pub back : Way
back =
    record {
      none = latest_none;
      slot = latest_at;
      turned = λ change. record { before = change.after; after = change.before };
      written = strike_at;
      written_stood = contains;
      struck = write_at;
      struck_stood = λ note digit. not (contains note digit);
      displaced = write_masked;
      displaced_stood = lack_in_turn;
      whole = λ s slot. take_back s (move_of slot) slot.before slot.struck;
      stood = λ s slot. stands_as_left s (move_of slot) slot.struck;
      counts = taken_back;
    }

-- again: the digit after, and exactly the marks in the mask struck again, or the mark changed again
abbrev pub again : Way
again =
    record {
      none = next_none;
      slot = next_at;
      turned = λ change. change;
      written = write_at;
      written_stood = λ note digit. not (contains note digit);
      struck = strike_at;
      struck_stood = contains;
      displaced = strike_masked;
      displaced_stood = none_missing_in_turn;
      whole = λ s slot. perform_again s (move_of slot) slot.struck;
      stood = λ s slot. stands_as_found s (move_of slot) slot.before slot.struck;
      counts = retaken;
    }

-- the digit put at a cell; a move that changes no digit changes nothing here
unfoldable pub digit_gone : Way → State → ℕ → Option DigitChange → State
digit_gone w s cell (Some change) = put_digit s cell (w.turned change).after
digit_gone w s cell None = s

-- the digit that a recorded move changed stands as it must; a move that changes no digit asks none
unfoldable pub digit_stood : Way → List ℕ → ℕ → Option DigitChange → Bool
digit_stood w digits cell (Some change) = eqb (at digits cell) (w.turned change).before
digit_stood w digits cell None = true

-- the marks of a move
unfoldable pub marks_gone : Way → State → Move → ℕ → State
marks_gone w s (Place row column digit) mask = with_notes s (w.displaced s.notes digit mask (peers_of (cell_of row column)))
marks_gone w s (Erase row column) mask = s
marks_gone w s (WriteMark row column digit) mask = with_notes s (w.written s.notes (cell_of row column) digit)
marks_gone w s (StrikeMark row column digit) mask = with_notes s (w.struck s.notes (cell_of row column) digit)

-- they stand as they must, each asked when it is changed; what is no digit is missing nowhere
unfoldable pub marks_stood : Way → List ℕ → Move → ℕ → Bool
marks_stood w notes (Place row column digit) mask = w.displaced_stood notes digit mask (peers_of (cell_of row column))
marks_stood w notes (Erase row column) mask = true
marks_stood w notes (WriteMark row column digit) mask = w.written_stood (at notes (cell_of row column)) digit
marks_stood w notes (StrikeMark row column digit) mask = w.struck_stood (at notes (cell_of row column)) digit

-- the tests that need no slot, and of the journal its length alone
unfoldable pub before_slot : Way → Board → ℕ → List Test
before_slot w b bytes = lent_tests (eqb bytes journal_bytes) b ((is_on b.solved ⇒ 4) ∷ w.none (counts_of b) ∷ [])

-- the slot is sound, and what its move changed stands as it must
unfoldable pub fits : Way → State → Slot → Bool
fits w s slot = both (is_sound s.given slot) (w.stood s slot)

-- a call that goes over one recorded move: the tests before its slot, 14 of the slot, and the move gone over
unfoldable pub call_of : Way → Board → List ℕ → Answer
call_of w b journal =
    let slot = slot_at journal (w.slot (counts_of b)) in
    let n = first (before_slot w b (length journal) ++ ((not (fits w (state_of b) slot) ⇒ 14) ∷ [])) in
    pick (eqb n 0) (answer accepted (moved b (w.whole (state_of b) slot) (w.counts (counts_of b)))) (answer (slot_refusal n (w.slot (counts_of b))) b)

-- what holds of both ways
pub record Laws (w : Way) : Type 0 where
  -- a number that is not 0, and is not that of the slot
  pub numbered : (c : Counts) → 1 ≤ (w.none c).number
  pub below_14 : (c : Counts) → (w.none c).number < 14
  -- a mask of 0 speaks of no peer
  pub no_mask : (notes : List ℕ) (digit : ℕ) (cells : List ℕ) → w.displaced notes digit 0 cells ≡ notes
  pub no_mask_stood : (notes : List ℕ) (digit : ℕ) (cells : List ℕ) → w.displaced_stood notes digit 0 cells ≡ true
  -- the two parts, one after the other, are the whole, and where the slot is sound they ask the whole
  pub whole : (s : State) (slot : Slot)
      → marks_gone w (digit_gone w s (cell_of slot.row slot.column) (digit_change slot)) (move_of slot) slot.struck ≡ w.whole s slot
  pub stood : (s : State) (slot : Slot) → is_sound s.given slot ≡ true
      → both (digit_stood w s.digits (cell_of slot.row slot.column) (digit_change slot)) (marks_stood w s.notes (move_of slot) slot.struck)
      ≡ w.stood s slot
