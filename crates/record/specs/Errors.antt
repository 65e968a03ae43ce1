-- Why a record is not written, and why bytes are not reopened, as refusals, in the document's numbers.
-- Assumes nothing.
use Rattle.puzzle.specs.declared.Refusal.{Refusal}
use Rattle.puzzle.specs.Refusals.{refusal}
use Rattle.puzzle.specs.Errors.{well_posed_refusal}
use Rattle.board.specs.Errors.{play_number, play_refusal}
use Rattle.play.specs.Unsound.{unsound_refusal}
use Rattle.record.specs.declared.error.WriteError.{WriteError}
use Rattle.record.specs.declared.error.WriteError.TheVariants.{Play, Unsound, OutputTooShort}
use Rattle.record.specs.declared.error.ReopenError.{ReopenError}
use Rattle.record.specs.declared.error.ReopenError.TheVariants.{Malformed, Oversized, WellPosed, TooManyUndone, ChecksWithoutMoves, MoveAfterSolved, MoveRefused, UndoneWhenSolved, CheckRefused, CheckAfterNoMove, CheckSolved}

-- 1, 2, 14, and 34 Output shorter than the record
abbrev pub write_error_refusal : WriteError → Refusal
write_error_refusal (Play e) = play_refusal e
write_error_refusal (Unsound e) = unsound_refusal e
write_error_refusal OutputTooShort = refusal 34 0 0

-- 17 to 33; place is the item, the move or the check, and inner why the move or the check is refused
abbrev pub reopen_refusal : ReopenError → Refusal
reopen_refusal (Malformed item) = refusal 17 item 0
reopen_refusal Oversized = refusal 18 0 0
reopen_refusal (WellPosed e) = well_posed_refusal e
reopen_refusal TooManyUndone = refusal 20 0 0
reopen_refusal ChecksWithoutMoves = refusal 21 0 0
reopen_refusal (MoveAfterSolved index) = refusal 28 index 0
reopen_refusal (MoveRefused index why) = refusal 29 index (play_number why)
reopen_refusal UndoneWhenSolved = refusal 30 0 0
reopen_refusal (CheckRefused index why) = refusal 31 index (play_number why)
reopen_refusal (CheckAfterNoMove index) = refusal 32 index 0
reopen_refusal (CheckSolved index) = refusal 33 index 0
