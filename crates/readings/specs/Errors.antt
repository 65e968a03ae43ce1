-- Why a reading is refused, as a refusal, in the document's numbers.
-- Assumes nothing.
use Rattle.puzzle.specs.declared.Refusal.{Refusal}
use Rattle.puzzle.specs.Refusals.{refusal}
use Rattle.board.specs.Errors.{play_refusal}
use Rattle.play.specs.Unsound.{unsound_refusal}
use Rattle.readings.specs.declared.error.ReadingError.{ReadingError}
use Rattle.readings.specs.declared.error.ReadingError.TheVariants.{Play, Unsound, NoSuchMove}

-- 1, 2, 14, and 35 A reading's k is 0 or above made
abbrev pub reading_error_refusal : ReadingError → Refusal
reading_error_refusal (Play e) = play_refusal e
reading_error_refusal (Unsound e) = unsound_refusal e
reading_error_refusal NoSuchMove = refusal 35 0 0
