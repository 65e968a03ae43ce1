-- The slots that moves fill, as a list: their bytes, their moves, and that each is sound. So a journal
-- that begins with the bytes of a book's slots holds its moves, and writing finds none of them unsound.
-- Assumes nothing.
use Prim.Native.Nat.{ℕ, zero, suc, ◌+◌, ◌*◌, ◌<◌}
use mathlib.Core.Path.{◌≡◌, refl, sym, ap, ◌∙◌}
use mathlib.Core.List.{List, [], ◌∷◌, ◌++◌, map}
use native.Mathlib.Nat.{le_of_suc-le-suc, not-suc-le-zero}
use native.Mathlib.Omega.{arith}
use lib.ListN.{length, get_or, take}
use Rattle.sudoku.proofs.Each.{Each}
use Rattle.puzzle.specs.Refusals.{accepted, first_refused}
use Rattle.journal.specs.declared.Move.{Move}
use Rattle.journal.specs.declared.Slot.{Slot}
use Rattle.journal.specs.Limits.{slot_bytes}
use Rattle.journal.specs.State.{State, perform}
use Rattle.journal.specs.Slots.{slot_for, bytes_of, slot_at, move_of, is_sound}
use Rattle.journal.proofs.Moves.{Fit, fit_perform, given_kept, mask_small, move_kept, slot_sound}
use Rattle.journal.proofs.Memory.{slots_bytes}
use Rattle.play.specs.Play.{unsound_slot}
use Rattle.record.specs.Write.{moves_of}
use Rattle.record.proofs.Held.{SlotFits, SlotSound, no_slot, slot_held, moves_held, slots_sound}
use Rattle.demands.specs.Book.{perform_all, slots_from}
use Rattle.demands.proofs.Plays.{Plays, move_no}
use Rattle.demands.proofs.Refusals.{passes_unsolved, passes_allowed}

-- the slots of moves, each with what it displaced when performed
unfoldable pub slots_made : State → List Move → List Slot
slots_made s [] = []
slots_made s (m ∷ ms) = slot_for s m ∷ slots_made (perform s m) ms

pub made_bytes : (s : State) (ms : List Move) → slots_from s ms ≡ slots_bytes (slots_made s ms)
unfolding slots_from slots_made slots_bytes
made_bytes s [] = refl
made_bytes s (m ∷ ms) = ap (λ (l : List ℕ). bytes_of (slot_for s m) ++ l) (made_bytes (perform s m) ms)

pub made_length : (s : State) (ms : List Move) → length (slots_made s ms) ≡ length ms
unfolding slots_made
made_length s [] = refl
made_length s (m ∷ ms) = ap suc (made_length (perform s m) ms)

pub made_moves : (s : State) (ms : List Move) → map move_of (slots_made s ms) ≡ ms
unfolding slots_made
made_moves s [] = refl
made_moves s (m ∷ ms) = λ j. move_kept s m j ∷ made_moves (perform s m) ms j

pub made_fit : (s : State) (ms : List Move) → Each SlotFits (slots_made s ms)
unfolding slots_made Each slot_for
made_fit s [] = tt
made_fit s (m ∷ ms) = (omega (arith, mask_small s m), made_fit (perform s m) ms)

-- slot i + 1 is that of move i + 1, made in the state after the moves before it
pub made_at : (s : State) (ms : List Move) (i : ℕ) → i < length ms → get_or (slots_made s ms) i no_slot ≡ slot_for (perform_all s (take i ms)) (move_no ms i)
unfolding slots_made perform_all move_no
made_at s [] i h = absurd (not-suc-le-zero h)
made_at s (m ∷ ms) zero h = refl
made_at s (m ∷ ms) (suc i) h = made_at (perform s m) ms i (le_of_suc-le-suc h)

-- soundness asks of a state only which cells are givens
pub sound_given : (s t : State) (slot : Slot) → s.given ≡ t.given → is_sound s.given slot ≡ is_sound t.given slot
unfolding is_sound
sound_given s t slot e = rw e

pub made_sound : (t s : State) (ms : List Move) → Fit s → Plays s ms → s.given ≡ t.given → Each (SlotSound t) (slots_made s ms)
unfolding slots_made Each Plays
made_sound t s [] f p e = tt
made_sound t s (m ∷ ms) f p e = (
  sym (sound_given s t (slot_for s m) e) ∙ slot_sound s m f (passes_allowed s m p.0),
  made_sound t (perform s m) ms (fit_perform s m f (passes_unsolved s m p.0) (passes_allowed s m p.0)) p.1 (given_kept s m ∙ e),
)

-- ---- a journal that begins with them

module _ (journal : List ℕ) (s : State) (ms : List Move) (begins : take (slot_bytes * length ms) journal ≡ slots_from s ms) where
  begins_made : take (slot_bytes * length ms) journal ≡ slots_bytes (slots_made s ms)
  begins_made = begins ∙ made_bytes s ms

  pub journal_slot : (i : ℕ) → i < length ms → slot_at journal (i + 1) ≡ slot_for (perform_all s (take i ms)) (move_no ms i)
  journal_slot i u =
      slot_held journal (slots_made s ms) (length ms) (made_length s ms) (made_fit s ms) begins_made i u ∙ made_at s ms i u

  pub journal_moves : moves_of journal (length ms) ≡ ms
  journal_moves = moves_held journal (slots_made s ms) (length ms) (made_length s ms) (made_fit s ms) begins_made ∙ made_moves s ms

  pub journal_sound : (t : State) → Fit s → Plays s ms → s.given ≡ t.given → first_refused (unsound_slot t.given journal) (length ms) 1 ≡ accepted
  journal_sound t f p e =
      slots_sound journal (slots_made s ms) (length ms) (made_length s ms) (made_fit s ms) begins_made t (made_sound t s ms f p e)
