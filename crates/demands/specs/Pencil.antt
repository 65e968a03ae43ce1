-- The pencil call of document 02, point 3, the statement: no call answers 10 or 11, which the mark calls did, and as
-- inner numbers the two stand beside 29 alone, where a record's kinds 4 and 5 keep their old rules; the pencil's own
-- numbers in their order; what a key does that bounces, and a call that is made again on the board that was passed.
-- What one press does to each mark stands in Undo.antt.
-- The proof stands elsewhere. Assumes nothing.
use Rattle.std.specs.Prelude.{ℕ, ◌+◌, ◌<◌, ◌≡◌, Bool, true, false, not, Option, List, [], ◌∷◌, ◌++◌, eqb}
use Rattle.sudoku.specs.Tests.{both, either}
use Rattle.sudoku.specs.Grid.{put}
use Rattle.puzzle.specs.declared.Refusal.{Refusal}
use Rattle.puzzle.specs.Refusals.{refusal, accepted}
use Rattle.journal.specs.Limits.{max_moves}
use Rattle.journal.specs.Counts.{counts}
use Rattle.board.specs.declared.Board.{Board}
use Rattle.board.specs.Board.{state_of, board_of, zero_board}
use Rattle.board.specs.Open.{open_of, no_moves, no_checks}
use Rattle.questions.specs.Questions.{cell_question, conflicts_question, accepts_marks_question, players_digit_question, status_question, full_question, consistent_question, can_undo_question, can_redo_question, left_question, keypad_question}
use Rattle.play.specs.declared.Play.{Play}
use Rattle.play.specs.Play.{play_of, latest_number, next_number}
use Rattle.record.specs.Write.{write_of}
use Rattle.record.specs.Reopen.{reopen_of}
use Rattle.lines.specs.Lines.{read_line_of, write_line_of}
use Rattle.readings.specs.Reading.{reading_of}
use Rattle.calls.specs.declared.Call.{Call}
use Rattle.calls.specs.Session.{Session, call_of, after, answers}
use Rattle.calls.specs.Encoded.{session, run_one}
use Rattle.demands.specs.Demand3.{Reached}
use Rattle.demands.specs.Positions.{solution_g, E, L, place, pencil, numbers, reopening}
use Rattle.demands.specs.Undo.{yes}

-- ---- 10 and 11

-- 10 MarkAlreadyWritten, 11 MarkNotThere
unfoldable pub of_marks : ℕ → Bool
of_marks n = either (eqb n 10) (eqb n 11)

-- neither is the number; and where one is the inner number, the refusal is 29. Beside 25 the inner number is none of a
-- refusal: it is a cell, the first peer, and may be cell 10 or 11
unfoldable pub inside_29 : Refusal → Bool
inside_29 r = both (not (of_marks r.number)) (either (not (of_marks r.inner)) (either (eqb r.number 29) (eqb r.number 25)))

-- of every call, whatever the board value and the bytes are. The latest and the next move are shown by their number
-- here, or by 34
pub record Inside29 : Type 0 where
  pub played : (s : Session) (c : Call) → inside_29 (call_of s c).said.refusal ≡ true
  pub ran : (s : Session) (c : Option Call) → inside_29 (run_one s c).said.refusal ≡ true
  pub opened : (givens solution journal checks : List ℕ) → inside_29 (open_of givens solution journal checks).answer.refusal ≡ true
  pub reopened : (bytes solution journal checks : List ℕ) → inside_29 (reopen_of bytes solution journal checks).answer.refusal ≡ true
  pub written : (b : Board) (journal checks output : List ℕ) → inside_29 (write_of b journal checks output).answer.refusal ≡ true
  pub read : (b : Board) (journal : List ℕ) (k : ℕ) → inside_29 (reading_of b journal k).refusal ≡ true
  pub line_read : (line output : List ℕ) → inside_29 (read_line_of line output).answer.refusal ≡ true
  pub line_written : (b : Board) (output : List ℕ) → inside_29 (write_line_of b output).answer.refusal ≡ true
  pub latest : (b : Board) (journal : List ℕ) → of_marks (latest_number b journal) ≡ false
  pub next : (b : Board) (journal : List ℕ) → of_marks (next_number b journal) ≡ false
  pub cell : (b : Board) (row column : ℕ) → inside_29 (cell_question b row column).refusal ≡ true
  pub conflicts : (b : Board) (row column : ℕ) → inside_29 (conflicts_question b row column).refusal ≡ true
  pub accepts_marks : (b : Board) (row column : ℕ) → inside_29 (accepts_marks_question b row column).refusal ≡ true
  pub holds_players_digit : (b : Board) (row column : ℕ) → inside_29 (players_digit_question b row column).refusal ≡ true
  pub is_solved : (b : Board) → inside_29 (status_question b).refusal ≡ true
  pub is_full : (b : Board) → inside_29 (full_question b).refusal ≡ true
  pub is_consistent : (b : Board) → inside_29 (consistent_question b).refusal ≡ true
  pub can_undo : (b : Board) → inside_29 (can_undo_question b).refusal ≡ true
  pub can_redo : (b : Board) → inside_29 (can_redo_question b).refusal ≡ true
  pub digits_left : (b : Board) (digit : ℕ) → inside_29 (left_question b digit).refusal ≡ true
  pub keypad : (b : Board) → inside_29 (keypad_question b).refusal ≡ true

-- ---- rows, computed

-- records of E: some moves, and none undone
unfoldable pub reopening_moves : List ℕ → Refusal
reopening_moves moves = reopening (moves ++ 6 ∷ 0 ∷ 0 ∷ [])

-- the old rules of kinds 4 and 5
pub record OldRules : Type 0 where
  pub written_struck : reopening_moves (4 ∷ 1 ∷ 1 ∷ 1 ∷ 5 ∷ 1 ∷ 1 ∷ 1 ∷ []) ≡ accepted
  pub written_twice : reopening_moves (4 ∷ 1 ∷ 1 ∷ 1 ∷ 4 ∷ 1 ∷ 1 ∷ 1 ∷ []) ≡ refusal 29 2 10
  pub written_10 : reopening_moves (4 ∷ 5 ∷ 5 ∷ 10 ∷ []) ≡ refusal 29 1 8
  pub struck_absent : reopening_moves (5 ∷ 1 ∷ 1 ∷ 1 ∷ []) ≡ refusal 29 1 11
  pub struck_twice : reopening_moves (4 ∷ 1 ∷ 1 ∷ 1 ∷ 5 ∷ 1 ∷ 1 ∷ 1 ∷ 5 ∷ 1 ∷ 1 ∷ 1 ∷ []) ≡ refusal 29 3 11
  pub struck_10 : reopening_moves (5 ∷ 5 ∷ 5 ∷ 10 ∷ []) ≡ refusal 29 1 11
  -- a mark that is kept under a digit, and one off the grid
  pub struck_kept : reopening_moves (4 ∷ 1 ∷ 1 ∷ 5 ∷ 2 ∷ 1 ∷ 1 ∷ 5 ∷ 5 ∷ 1 ∷ 1 ∷ 5 ∷ []) ≡ refusal 29 3 7
  pub struck_off_grid : reopening_moves (5 ∷ 0 ∷ 1 ∷ 1 ∷ []) ≡ refusal 29 1 3
  -- 25: cell 1 of the solution and its peer 10, or 11, are equal
  pub peer_10 : (open_of [] (put solution_g 10 1) no_moves no_checks).answer.refusal ≡ refusal 25 1 10
  pub peer_11 : (open_of [] (put solution_g 11 1) no_moves no_checks).answer.refusal ≡ refusal 25 1 11

-- the board of E, all 1,024 moves standing
unfoldable pub full_e : Session
full_e = session (board_of (state_of E.board) solution_g (counts max_moves max_moves) 0) no_moves no_checks

-- the pencil's numbers: 1 2 3 4 7 8 15, each before the next
pub record PencilRows : Type 0 where
  pub one_before_2 : numbers (session zero_board [] no_checks) (pencil 0 5 10 ∷ []) ≡ 1 ∷ []
  pub two_before_3 : numbers (session zero_board no_moves no_checks) (pencil 0 5 10 ∷ []) ≡ 2 ∷ []
  pub three_before_4 : numbers L (place 9 9 8 ∷ pencil 0 9 10 ∷ pencil 9 9 10 ∷ []) ≡ 0 ∷ 3 ∷ 4 ∷ []
  pub seven_before_8 : numbers E (place 5 5 5 ∷ pencil 5 5 10 ∷ pencil 5 5 0 ∷ []) ≡ 0 ∷ 7 ∷ 7 ∷ []
  pub eight_before_15 : numbers full_e (pencil 5 5 10 ∷ pencil 5 5 0 ∷ pencil 5 5 1 ∷ []) ≡ 8 ∷ 8 ∷ 15 ∷ []
  -- a given's cell, and one whose mark is kept under a digit
  pub given : numbers L (pencil 1 1 1 ∷ []) ≡ 7 ∷ []
  pub kept : numbers E (pencil 1 1 5 ∷ place 1 1 5 ∷ pencil 1 1 5 ∷ []) ≡ 0 ∷ 0 ∷ 7 ∷ []

-- ---- a key that bounces, and a call made again

-- The second press, made at once, is accepted like the first and makes a move of its own; the board is as it was
-- before both, but for its counts: two moves more stand, each to be undone by itself
pub record Bounced (s : Session) (row column digit : ℕ) : Type 0 where
  pub answered : answers s (pencil row column digit ∷ pencil row column digit ∷ []) ≡ yes ∷ yes ∷ []
  pub board :
      (after s (pencil row column digit ∷ pencil row column digit ∷ [])).board
      ≡ board_of (state_of s.board) s.board.solution (counts (s.board.standing + 2) (s.board.standing + 2)) s.board.checks

pub record PencilTheorem : Type 0 where
  pub numbers : Inside29
  pub old_rules : OldRules
  pub rows : PencilRows
  -- on every board that calls reach, where the journal has room for two moves
  pub bounced :
      (s : Session) (row column digit : ℕ)
      → Reached s
      → answers s (pencil row column digit ∷ []) ≡ yes ∷ []
      → s.board.standing + 1 < max_moves
      → Bounced s row column digit
  -- where the answer was lost: place, erase and pencil made again on the board that was passed, on the journal as the
  -- first left it, answer the same and leave the same, whatever that board is
  pub repeated :
      (b : Board) (journal : List ℕ) (a : Play)
      → play_of b (play_of b journal a).journal a ≡ play_of b journal a
