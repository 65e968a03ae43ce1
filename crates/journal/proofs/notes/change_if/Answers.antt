-- `journal::notes::change_if` meets its contract: where the note stays the list does.
-- Assumes nothing.
use mathlib.Core.Path.{sym}
use Rattle.sudoku.specs.Grid.{put}
use Rattle.journal.specs.State.{lowest}
use Rattle.journal.proofs.CellLoops.{put_pick}
use Rattle.journal.proofs.notes.change_if.Goals as goal

pub returns-clause-changes : goal.returns-clause-changes
unfolding put
returns-clause-changes g c =
    let a = c.args in
    rw (c.put_at.ensures, c.changed.ensures a.digit (lowest a.mask) c.mark_if-mark.ensures, c.note_at-note.ensures, g.met.C.MarkChange.laws.cell a.notes.now a.cell a.digit)
    (sym (put_pick (lowest a.mask) a.notes.now a.cell _))
