-- `journal::notes::change_masked_in` meets its contract. The loop's invariant:
-- changing by the rest of the mask at what is left of the cells completes the notes,
-- and what was found so far together with what is found there completes the answer.
-- Assumes nothing.
use mathlib.Core.Path.{◌≡◌}
use lib.ListN.{drop}
use Rattle.sudoku.specs.Tests.{both}
use Rattle.journal.proofs.notes.change_masked_in.Given as goal

abbrev pub invariant-loop-cell : goal.invariant-loop-cell
invariant-loop-cell g l =
    let m = g.C.MarkChange in
    record {
      fits : m.fits_each l.initial.notes l.digit l.mask l.cells ≡ both l.ok (m.fits_each l.notes l.digit l.rest (drop l.cell-index l.cells));
      changes : m.masked l.initial.notes l.digit l.mask l.cells ≡ m.masked l.notes l.digit l.rest (drop l.cell-index l.cells);
    }
