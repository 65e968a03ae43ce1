-- Why a line is not read, and why a board is not written as one, as refusals, in the document's numbers.
-- Assumes nothing.
use Rattle.puzzle.specs.declared.Refusal.{Refusal}
use Rattle.puzzle.specs.Refusals.{refusal}
use Rattle.board.specs.Errors.{play_refusal}
use Rattle.lines.specs.declared.error.LineError.{LineError}
use Rattle.lines.specs.declared.error.LineError.TheVariants.{Play, OutputTooShort, NotALine, OtherSort}

-- 2, 34 Output too short, 36 Neither 81 characters nor 82 with a line feed last, and 37 A character of another sort,
-- place its number
abbrev pub line_error_refusal : LineError → Refusal
line_error_refusal (Play e) = play_refusal e
line_error_refusal OutputTooShort = refusal 34 0 0
line_error_refusal NotALine = refusal 36 0 0
line_error_refusal (OtherSort character) = refusal 37 character 0
