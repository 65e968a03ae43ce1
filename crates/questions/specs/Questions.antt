-- The questions of document 01 (cell.rs, puzzle.rs, board.rs) and
-- the keypad. Each has number 2 first, a position 3, a key 8.
-- What stands beside a refusal is 0 or false.
-- Assumes nothing.
use Rattle.std.specs.Prelude.{ℕ, Bool, false, not, [], ◌∷◌, ltb, eqb, Result, Ok, Err}
use Rattle.puzzle.specs.Givens.{is_on, is_given}
use Rattle.sudoku.specs.Tests.{◌⇒◌, first, pick, both, listed}
use Rattle.sudoku.specs.Grid.{in_range, on_grid, cell_of}
use Rattle.puzzle.specs.Refusals.{refusal, accepted}
use Rattle.puzzle.specs.Puzzle.{conflicts, is_full, is_consistent, digits_left}
use Rattle.journal.specs.State.{State, digit_at, note_at, holds_players_digit, accepts_marks}
use Rattle.board.specs.declared.Board.{Board}
use Rattle.board.specs.declared.error.PlayError.{PlayError}
use Rattle.board.specs.Errors.{play_number}
use Rattle.questions.specs.declared.CellAnswer.{CellAnswer}
use Rattle.questions.specs.declared.YesNo.{YesNo}
use Rattle.questions.specs.declared.Left.{Left}
use Rattle.questions.specs.declared.KeypadAnswer.{KeypadAnswer}
use Rattle.board.specs.Board.{state_of, is_board}

-- 2; where a position is named, 2 3
unfoldable pub board_number : Board → ℕ
board_number b = first ((not (is_board b) ⇒ 2) ∷ [])

unfoldable pub cell_number : Board → ℕ → ℕ → ℕ
cell_number b row column = first ((not (is_board b) ⇒ 2) ∷ (not (on_grid row column) ⇒ 3) ∷ [])

-- the answer to a question of yes or no: no beside a refusal
unfoldable pub yes_no : ℕ → Bool → YesNo
yes_no n holds = record { refusal = refusal n 0 0; holds = both (eqb n 0) holds }

-- the same of a test that answers the question where it refuses nothing
abbrev pub answered : Result Bool PlayError → YesNo
answered (Ok holds) = yes_no 0 holds
answered (Err e) = yes_no (play_number e) false

-- the question for one cell: its digit, whether it is a given,
-- whether it conflicts, its kept note and whether that is shown.
-- A note under a digit is kept and not shown
unfoldable pub cell_answer : State → ℕ → CellAnswer
cell_answer s cell =
    record {
      refusal = accepted;
      digit = digit_at s cell;
      given = is_given s.given cell;
      conflicting = conflicts s.digits cell;
      note = note_at s cell;
      shown = eqb (digit_at s cell) 0;
    }

unfoldable pub no_cell : ℕ → CellAnswer
no_cell n = record { refusal = refusal n 0 0; digit = 0; given = false; conflicting = false; note = 0; shown = false }

unfoldable pub cell_question : Board → ℕ → ℕ → CellAnswer
cell_question b row column =
    let n = cell_number b row column in
    pick (eqb n 0) (cell_answer (state_of b) (cell_of row column)) (no_cell n)

unfoldable pub conflicts_question : Board → ℕ → ℕ → YesNo
conflicts_question b row column = yes_no (cell_number b row column) (conflicts b.digits (cell_of row column))

unfoldable pub accepts_marks_question : Board → ℕ → ℕ → YesNo
accepts_marks_question b row column = yes_no (cell_number b row column) (accepts_marks (state_of b) (cell_of row column))

unfoldable pub players_digit_question : Board → ℕ → ℕ → YesNo
players_digit_question b row column = yes_no (cell_number b row column) (holds_players_digit (state_of b) (cell_of row column))

unfoldable pub status_question : Board → YesNo
status_question b = yes_no (board_number b) (is_on b.solved)

unfoldable pub full_question : Board → YesNo
full_question b = yes_no (board_number b) (is_full b.digits)

unfoldable pub consistent_question : Board → YesNo
consistent_question b = yes_no (board_number b) (is_consistent b.digits)

-- a move stands, and the board is not solved
unfoldable pub can_undo_question : Board → YesNo
can_undo_question b = yes_no (board_number b) (both (not (is_on b.solved)) (ltb 0 b.standing))

-- a move is undone, and the board is not solved
unfoldable pub can_redo_question : Board → YesNo
can_redo_question b = yes_no (board_number b) (both (not (is_on b.solved)) (ltb b.standing b.made))

-- keypad: 2 8; digits left for a key
unfoldable pub key_number : Board → ℕ → ℕ
key_number b digit = first ((not (is_board b) ⇒ 2) ∷ (not (in_range digit) ⇒ 8) ∷ [])

unfoldable pub left_question : Board → ℕ → Left
left_question b digit =
    let n = key_number b digit in
    record { refusal = refusal n 0 0; left = pick (eqb n 0) (digits_left b.digits digit) 0 }

-- the keypad whole: 2; what the question for a key answers, for each of the keys 1 to 9
unfoldable pub keypad_question : Board → KeypadAnswer
keypad_question b = record { refusal = refusal (board_number b) 0 0; left = listed (λ key. (left_question b key).left) 9 1 }
