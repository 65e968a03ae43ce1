-- `journal::notes::change_in` meets its contract.
-- Assumes nothing.
use mathlib.Core.Bool.{true}
use Rattle.sudoku.specs.Tests.{pick}
use Rattle.sudoku.specs.Grid.{put}
use Rattle.journal.proofs.notes.change_in.Goals as goal

pub returns : goal.returns
unfolding pick put
returns g c =
    let a = c.args in
    rw (c.put_at.ensures, c.changed.ensures a.digit true c.power.ensures, c.note_at-note.ensures, g.met.C.MarkChange.laws.cell a.notes.now a.cell a.digit)
