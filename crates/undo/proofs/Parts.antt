-- What is asked of the digit and of the marks in turn is what is asked of the whole, where the slot is sound: the law of
-- both ways, said of each in the words of the definitions of undo and redo.
-- Assumes nothing.
use mathlib.Core.Path.{◌≡◌}
use mathlib.Core.Bool.{true, ◌&&◌}
use Rattle.sudoku.specs.Tests.{both}
use Rattle.sudoku.specs.Grid.{cell_of}
use Rattle.journal.specs.declared.Slot.{Slot}
use Rattle.journal.specs.State.{State, stands_as_left, stands_as_found}
use Rattle.journal.specs.Slots.{move_of, digit_change, is_sound}
use Rattle.play.specs.Play.{can_take_back, can_retake}
use Rattle.undo.specs.Code.Ways.{back, again, digit_stood, marks_stood, fits}
use Rattle.undo.specs.Code.Kept.{back_laws, again_laws}
use Rattle.undo.proofs.Going.{fits_parts}

module _ (s : State) (slot : Slot) (h : is_sound s.given slot ≡ true) where
  pub left_parts : both (digit_stood back s.digits (cell_of slot.row slot.column) (digit_change slot)) (marks_stood back s.notes (move_of slot) slot.struck)
      ≡ stands_as_left s (move_of slot) slot.struck
  left_parts = back_laws.stood s slot h

  pub found_parts : both (digit_stood again s.digits (cell_of slot.row slot.column) (digit_change slot)) (marks_stood again s.notes (move_of slot) slot.struck)
      ≡ stands_as_found s (move_of slot) slot.before slot.struck
  found_parts = again_laws.stood s slot h

  pub take_back_parts : (digit_stood back s.digits (cell_of slot.row slot.column) (digit_change slot) && marks_stood back s.notes (move_of slot) slot.struck) ≡ can_take_back s slot
  unfolding can_take_back fits
  take_back_parts = fits_parts back back_laws s slot h

  pub retake_parts : (digit_stood again s.digits (cell_of slot.row slot.column) (digit_change slot) && marks_stood again s.notes (move_of slot) slot.struck) ≡ can_retake s slot
  unfolding can_retake fits
  retake_parts = fits_parts again again_laws s slot h
