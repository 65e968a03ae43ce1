-- Both ways keep the laws: a recorded move gone over by parts, where the givens stay, the digits and the status
-- come from the digits and the status, and the notes from the notes; and a mask of 0, which speaks of no peer.
-- Assumes nothing.
use Prim.Native.Nat.{ℕ}
use mathlib.Core.Path.{◌≡◌, refl, sym, ap, ◌∙◌}
use mathlib.Core.Bool.{Bool, true, false, not}
use mathlib.Core.List.{List, [], ◌∷◌}
use lib.Dec.{eqb}
use borrow.Author.Tests.{eqb-true, leb-true, ltb-true}
use Rattle.std.specs.Prelude.{Option, Some, None}
use Rattle.sudoku.specs.Tests.{pick, both, either}
use Rattle.sudoku.specs.Grid.{in_range, is_cell, cell_of, peers_of}
use Rattle.sudoku.proofs.Walks.{both_left, both_second}
use Rattle.sudoku.proofs.Grid.{cell_of_is_cell}
use Rattle.note.specs.Note.{contains}
use Rattle.journal.specs.declared.DigitChange.{DigitChange}
use Rattle.journal.specs.declared.Move.{Move}
use Rattle.journal.specs.declared.Move.TheVariants.{Place, Erase, WriteMark, StrikeMark}
use Rattle.journal.specs.declared.Slot.{Slot}
use Rattle.journal.specs.State.{State, with_notes, put_digit, lowest, write_masked, strike_masked, every_masked, perform, perform_again, take_back, digit_at, note_at, stands_as_left, stands_as_found}
use Rattle.journal.specs.Kinds.{place_kind, erase_kind, write_kind}
use Rattle.journal.specs.Code.InTurn.{in_turn, lack_in_turn, none_missing_in_turn}
use Rattle.journal.specs.Slots.{move_of, digit_change, sound_place, is_sound, is_free}
use Rattle.journal.proofs.SlotLaws.{sound_place_lem}
use Rattle.journal.proofs.InTurn.{lack_peers, have_peers}
use Rattle.undo.specs.Code.Ways.{Way, back, again, digit_gone, digit_stood, marks_gone, marks_stood, Laws}

-- ---- a mask of 0

write_none : (notes : List ℕ) (d : ℕ) (cells : List ℕ) → write_masked notes d 0 cells ≡ notes
unfolding write_masked lowest pick
write_none notes d [] = refl
write_none notes d (cell ∷ cells) = write_none notes d cells

strike_none : (notes : List ℕ) (d : ℕ) (cells : List ℕ) → strike_masked notes d 0 cells ≡ notes
unfolding strike_masked lowest pick
strike_none notes d [] = refl
strike_none notes d (cell ∷ cells) = strike_none notes d cells

in_turn_none : (change : List ℕ → ℕ → List ℕ) (test : ℕ → Bool) (notes cells : List ℕ) → in_turn change test notes 0 cells ≡ true
unfolding in_turn lowest both either pick
in_turn_none change test notes [] = refl
in_turn_none change test notes (cell ∷ cells) = in_turn_none change test notes cells

lack_none : (notes : List ℕ) (d : ℕ) (cells : List ℕ) → lack_in_turn notes d 0 cells ≡ true
unfolding lack_in_turn
lack_none notes d cells = in_turn_none _ _ notes cells

have_none : (notes : List ℕ) (d : ℕ) (cells : List ℕ) → none_missing_in_turn notes d 0 cells ≡ true
unfolding none_missing_in_turn
have_none notes d cells = in_turn_none _ _ notes cells

-- ---- what is asked in turn of the peers is what is asked of them all, where the slot is sound

module _ (slot : Slot) (given : List ℕ) (h : is_sound given slot ≡ true) where
  sound_cell : is_cell (cell_of slot.row slot.column) ≡ true
  unfolding is_sound is_free
  sound_cell = cell_of_is_cell _ _ (both_left _ _ (both_left _ _ h))

  sound_digit : eqb slot.kind place_kind ≡ true → in_range slot.digit ≡ true
  unfolding is_sound is_free sound_place
  sound_digit k = both_left _ _ (sym (sound_place_lem given slot (both_left _ _ h) (eqb-true _ _ k)) ∙ h)

-- ---- the whole, by what the tests of the kind byte say: a place, an erase, a mark written

-- a slot's move and its digit change by these tests
abbrev move_by : ℕ → ℕ → ℕ → Bool → Bool → Bool → Move
move_by row column digit p e w = pick p (Place row column digit) (pick e (Erase row column) (pick w (WriteMark row column digit) (StrikeMark row column digit)))

abbrev change_by : ℕ → ℕ → Bool → Bool → Option DigitChange
change_by before digit p e = pick p (Some (record { before = before; after = digit })) (pick e (Some (record { before = before; after = 0 })) None)

-- the parts of a move, one after the other
abbrev together : Way → State → ℕ → Option DigitChange → Move → ℕ → State
together w s cell change m mask = marks_gone w (digit_gone w s cell change) m mask

abbrev both_stood : Way → State → ℕ → Option DigitChange → Move → ℕ → Bool
both_stood w s cell change m mask = both (digit_stood w s.digits cell change) (marks_stood w s.notes m mask)

module _ (s : State) (row column digit before mask : ℕ) where
  back_by : (p e w : Bool) → together back s (cell_of row column) (change_by before digit p e) (move_by row column digit p e w) mask ≡ take_back s (move_by row column digit p e w) before mask
  unfolding pick marks_gone digit_gone take_back with_notes put_digit
  back_by true e w = refl
  back_by false true w = refl
  back_by false false true = refl
  back_by false false false = refl

  again_by : (p e w : Bool) → together again s (cell_of row column) (change_by before digit p e) (move_by row column digit p e w) mask ≡ perform_again s (move_by row column digit p e w) mask
  unfolding pick marks_gone digit_gone perform_again perform with_notes put_digit
  again_by true e w = refl
  again_by false true w = refl
  again_by false false true = refl
  again_by false false false = refl

  left_by : (p e w : Bool) → (p ≡ true → lack_in_turn s.notes digit mask (peers_of (cell_of row column)) ≡ every_masked (λ peer. not (contains (note_at s peer) digit)) mask (peers_of (cell_of row column)))
      → both_stood back s (cell_of row column) (change_by before digit p e) (move_by row column digit p e w) mask ≡ stands_as_left s (move_by row column digit p e w) mask
  unfolding pick digit_stood marks_stood stands_as_left digit_at note_at both
  left_by true e w h = ap (both (eqb (digit_at s (cell_of row column)) digit)) (h refl)
  left_by false true w h = both_second (eqb (digit_at s (cell_of row column)) 0) true refl
  left_by false false true h = refl
  left_by false false false h = refl

  found_by : (p e w : Bool) → (p ≡ true → none_missing_in_turn s.notes digit mask (peers_of (cell_of row column)) ≡ every_masked (λ peer. contains (note_at s peer) digit) mask (peers_of (cell_of row column)))
      → both_stood again s (cell_of row column) (change_by before digit p e) (move_by row column digit p e w) mask ≡ stands_as_found s (move_by row column digit p e w) before mask
  unfolding pick digit_stood marks_stood stands_as_found digit_at note_at both
  found_by true e w h = ap (both (eqb (digit_at s (cell_of row column)) before)) (h refl)
  found_by false true w h = both_second (eqb (digit_at s (cell_of row column)) before) true refl
  found_by false false true h = refl
  found_by false false false h = refl

pub back_laws : Laws back
unfolding digit_change move_of note_at
back_laws =
    record {
      numbered = λ c. leb-true _ _ refl;
      below_14 = λ c. ltb-true _ _ refl;
      no_mask = write_none;
      no_mask_stood = lack_none;
      whole = λ s slot. back_by s slot.row slot.column slot.digit slot.before slot.struck (eqb slot.kind place_kind) (eqb slot.kind erase_kind) (eqb slot.kind write_kind);
      stood = λ s slot h. left_by s slot.row slot.column slot.digit slot.before slot.struck (eqb slot.kind place_kind) (eqb slot.kind erase_kind) (eqb slot.kind write_kind) (λ k. lack_peers s.notes slot.digit slot.struck _ (sound_cell slot s.given h));
    }

pub again_laws : Laws again
unfolding digit_change move_of note_at
again_laws =
    record {
      numbered = λ c. leb-true _ _ refl;
      below_14 = λ c. ltb-true _ _ refl;
      no_mask = strike_none;
      no_mask_stood = have_none;
      whole = λ s slot. again_by s slot.row slot.column slot.digit slot.before slot.struck (eqb slot.kind place_kind) (eqb slot.kind erase_kind) (eqb slot.kind write_kind);
      stood = λ s slot h. found_by s slot.row slot.column slot.digit slot.before slot.struck (eqb slot.kind place_kind) (eqb slot.kind erase_kind) (eqb slot.kind write_kind) (λ k. have_peers s.notes slot.digit slot.struck _ (sound_cell slot s.given h) (sound_digit slot s.given h k));
    }
