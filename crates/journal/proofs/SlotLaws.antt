-- The law of slots that crate undo rests on. Assumes nothing.
use Prim.Native.Nat.{ℕ}
use mathlib.Core.Path.{◌≡◌, refl}
use mathlib.Core.Bool.{true, false}
use mathlib.Core.List.{List}
use Rattle.sudoku.specs.Tests.{both, either}
use Rattle.sudoku.proofs.Walks.{either_first}
use Rattle.journal.specs.declared.Slot.{Slot}
use Rattle.journal.specs.Slots.{sound_place, is_sound, is_free}

-- a place is sound by its own ranges, where its cell is free
pub sound_place_lem : (given : List ℕ) (slot : Slot) → is_free given slot.row slot.column ≡ true → slot.kind ≡ 2 → is_sound given slot ≡ sound_place slot
unfolding is_sound both either
sound_place_lem given slot p e = rw (p, e) (either_first _ false refl)
