-- Why a call that plays, undoes, checks or asks is refused, and the number that each reason has.
-- Assumes nothing.
use Rattle.std.specs.Prelude.{ℕ, Result, Ok, Err}
use Rattle.puzzle.specs.declared.Refusal.{Refusal}
use Rattle.puzzle.specs.Refusals.{refusal}
use Rattle.board.specs.declared.error.PlayError.{PlayError}
use Rattle.board.specs.declared.error.PlayError.TheVariants.{WrongLength, NotABoard, NoSuchCell, Solved, GivenCell, NoPlayersDigit, MarksNotAccepted, DigitOutOfRange, DigitAlreadyStands, MarkAlreadyWritten, MarkNotThere, NothingToUndo, NothingToRedo, JournalFull, ChecksFull}

abbrev pub play_number : PlayError → ℕ
play_number WrongLength = 1
play_number NotABoard = 2
play_number NoSuchCell = 3
play_number Solved = 4
play_number GivenCell = 5
play_number NoPlayersDigit = 6
play_number MarksNotAccepted = 7
play_number DigitOutOfRange = 8
play_number DigitAlreadyStands = 9
play_number MarkAlreadyWritten = 10
play_number MarkNotThere = 11
play_number NothingToUndo = 12
play_number NothingToRedo = 13
play_number JournalFull = 15
play_number ChecksFull = 16

-- no place and no inner number goes with it
abbrev pub play_refusal : PlayError → Refusal
play_refusal e = refusal (play_number e) 0 0

-- the number that a test's answer tells: 0 where it is Ok
abbrev pub number_told : {T : Type 0} → Result T PlayError → ℕ
number_told (Ok _) = 0
number_told (Err e) = play_number e
