-- The errors of opening's tests as refusals, in the document's numbers.
-- Assumes nothing.
use Rattle.puzzle.specs.declared.Refusal.{Refusal}
use Rattle.puzzle.specs.declared.error.WellPosedError.{WellPosedError}
use Rattle.puzzle.specs.declared.error.WellPosedError.TheVariants.{NotAscending, NothingLeftToPlay, SolutionNotFull, SolutionDigitOutOfRange, SolutionConflict, GivenOffGrid, GivenMismatch}
use Rattle.puzzle.specs.Refusals.{refusal}

-- place is the first cell or the given's index; inner is the first peer that holds the cell's digit
abbrev pub well_posed_refusal : WellPosedError → Refusal
well_posed_refusal NotAscending = refusal 19 0 0
well_posed_refusal NothingLeftToPlay = refusal 22 0 0
well_posed_refusal (SolutionNotFull cell) = refusal 23 cell 0
well_posed_refusal (SolutionDigitOutOfRange cell) = refusal 24 cell 0
well_posed_refusal (SolutionConflict cell peer) = refusal 25 cell peer
well_posed_refusal (GivenOffGrid index) = refusal 26 index 0
well_posed_refusal (GivenMismatch index) = refusal 27 index 0
