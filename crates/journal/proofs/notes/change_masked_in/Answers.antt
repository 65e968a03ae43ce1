-- `journal::notes::change_masked_in` meets its contract. The loop's invariant:
-- changing by the rest of the mask at what is left of the cells completes the notes,
-- and what was found so far together with what is found there completes the answer.
-- Assumes nothing.
use Prim.Native.Nat.{◌≤◌, ◌<◌}
use mathlib.Core.Path.{refl, sym, ◌∙◌}
use native.Mathlib.Omega.{arith}
use lib.ListN.{length}
use Rattle.sudoku.specs.Tests.{both}
use Rattle.journal.proofs.CellLoops.{masked_turn, masked_end, fits_turn, fits_end}
use Rattle.journal.proofs.notes.change_masked_in.Goals as goal

pub loop-cell-init : goal.loop-cell-init
unfolding both
loop-cell-init g c = record { fits = refl; changes = refl }

pub loop-cell-preserved : goal.loop-cell-preserved
loop-cell-preserved g c =
    let laws = g.met.C.MarkChange.laws in
    let cells = c.args.cells.now in
    let turn = c.loop-cell in
    let h : turn.cell-index < length cells = omega arith in
    let step = rw c.from.ensures at c.change_if-fits.ensures in
    record {
      fits =
          turn.invariant.fits
          ∙ fits_turn laws cells turn.cell-index h turn.notes c.change_if-fits.new.notes c.args.digit turn.rest turn.ok c.change_if-fits.result step.fits step.changes;
      changes = rw step.changes (turn.invariant.changes ∙ masked_turn laws cells turn.cell-index h turn.notes c.args.digit turn.rest);
    }

pub returns-clause-fits : goal.returns-clause-fits
returns-clause-fits g c =
    let turn = c.loop-cell in
    let h : length c.args.cells.now ≤ turn.cell-index = omega arith in
    sym (turn.invariant.fits ∙ fits_end g.met.C.MarkChange.laws c.args.cells.now turn.cell-index h _ _ _ _)

pub returns-clause-changes : goal.returns-clause-changes
returns-clause-changes g c =
    let turn = c.loop-cell in
    let h : length c.args.cells.now ≤ turn.cell-index = omega arith in
    sym (turn.invariant.changes ∙ masked_end g.met.C.MarkChange.laws c.args.cells.now turn.cell-index h _ _ _)
