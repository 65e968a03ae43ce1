-- `board::value::note_values` meets its contract. The invariant: what
-- was found so far, and what is left of the walk, make the whole walk.
-- Assumes nothing.
use mathlib.Core.Path.{refl, sym, ap}
use Rattle.sudoku.specs.Tests.{both}
use Rattle.note.specs.Note.{is_note}
use Rattle.sudoku.proofs.Walks.{and_both}
use Rattle.board.specs.Board.{note_value}
use Rattle.board.proofs.Values.{at_next, turn, at_end}
use Rattle.board.proofs.value.note_values.Goals as goal

pub loop-note-init : goal.loop-note-init
unfolding both
loop-note-init c = refl

pub loop-note-preserved : goal.loop-note-preserved
unfolding note_value
loop-note-preserved c =
    turn (note_value c.args.notes.now) _ _ _ c.loop-note.note-index c.loop-note-test.true
    (rw (c.is_note-ok.ensures, and_both) (ap (λ n. both c.loop-note.ok (is_note n)) (sym (at_next c.args.notes.now c.loop-note.note-index))))
    c.loop-note.invariant

pub returns : goal.returns
returns c = at_end (note_value c.args.notes.now) _ _ c.loop-note.note-index c.loop-note-test.false c.loop-note.invariant
