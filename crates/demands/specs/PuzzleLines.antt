-- Puzzle lines of document 02, point 1, the statement. A written line read back yields the same givens, for every board
-- that passes number 2. A read line whose givens open a board, written from it, before or after any list of calls, is
-- the line with each 0 made a full stop and its line feed gone. What a line yields always ascends. And a refused call
-- leaves every byte of the output. The proof stands elsewhere. Assumes nothing.
use Rattle.std.specs.Prelude.{ℕ, ◌≤◌, ◌≡◌, true, List, [], ◌∷◌, ◌++◌, length, take, replicate}
use Rattle.puzzle.specs.declared.Given.{Given}
use Rattle.puzzle.specs.Refusals.{refusal, accepted}
use Rattle.puzzle.specs.Givens.{triples, triple_bytes, ascending}
use Rattle.journal.specs.Bytes.{over}
use Rattle.board.specs.declared.Board.{Board}
use Rattle.board.specs.Board.{is_board, zero_board}
use Rattle.board.specs.Open.{open_of}
use Rattle.record.specs.Write.{Wrote, wrote, givens_of}
use Rattle.lines.specs.Lines.{line_bytes, givens_room, line_givens, read_line_of, write_line_of, dotted_line}
use Rattle.calls.specs.declared.Call.{Call}
use Rattle.calls.specs.Session.{Session, after, started}
use Rattle.demands.specs.Demand3.{Reached}
use Rattle.demands.specs.Positions.{open_g, place, pencil}

-- the bytes that a call has written
unfoldable pub bytes_in : Wrote → List ℕ
bytes_in w = take w.answer.length w.output

-- a call is refused: it has written nothing, and every byte of the output is as it was
pub record Untouched (w : Wrote) (output : List ℕ) : Type 0 where
  pub nothing : w.answer.length ≡ 0
  pub same : w.output ≡ output

-- a line yields these givens: into every output of 243 bytes or more, whatever it held; and opening reads them there
pub record Yields (line : List ℕ) (givens : List Given) : Type 0 where
  pub read :
      (output : List ℕ)
      → givens_room ≤ length output
      → read_line_of line output ≡ wrote accepted (length (triple_bytes givens)) (over output 0 (triple_bytes givens))
  pub handed_on : (output : List ℕ) → givens_room ≤ length output → triples (bytes_in (read_line_of line output)) ≡ givens

-- ---- lines, computed: 4 in cell 2 and 7 in cell 81, blanks as full stops and as 0

unfoldable pub line_a : List ℕ
line_a = 46 ∷ 52 ∷ replicate 39 46 ++ replicate 39 48 ++ 55 ∷ []

-- two givens of solution G: 2 in cell 2 and 8 in cell 81
unfoldable pub line_g : List ℕ
line_g = 48 ∷ 50 ∷ replicate 78 48 ++ 56 ∷ 10 ∷ []

-- an output of 250 bytes of 9
unfoldable pub room : List ℕ
room = replicate 250 9

pub record LineRows : Type 0 where
  pub reads : read_line_of line_a room ≡ wrote accepted 6 ((1 ∷ 2 ∷ 4 ∷ 9 ∷ 9 ∷ 7 ∷ []) ++ replicate 244 9)
  pub line_feed : read_line_of (line_a ++ 10 ∷ []) room ≡ read_line_of line_a room
  pub dots : dotted_line (line_a ++ 10 ∷ []) ≡ 46 ∷ 52 ∷ replicate 78 46 ++ 55 ∷ []
  -- a line of two givens, with zeros and a line feed, opens with solution G; after a mark and a digit of the player's
  -- it is written with full stops, into the front of 83 bytes
  pub comes_back :
      write_line_of (after (started (open_g (bytes_in (read_line_of line_g room)))) (pencil 1 1 5 ∷ place 1 3 7 ∷ [])).board (replicate 83 9)
      ≡ wrote accepted 81 ((46 ∷ 50 ∷ replicate 78 46) ++ 56 ∷ 9 ∷ 9 ∷ [])
  pub opens : (open_g (bytes_in (read_line_of line_g room))).answer.refusal ≡ accepted
  -- 36: one character too few or too many, another byte than a line feed behind 81, a line feed more, nothing
  pub no_characters : read_line_of [] room ≡ wrote (refusal 36 0 0) 0 room
  pub eighty : read_line_of (take 80 line_a) room ≡ wrote (refusal 36 0 0) 0 room
  pub eighty_two : read_line_of (line_a ++ 46 ∷ []) room ≡ wrote (refusal 36 0 0) 0 room
  pub carriage_return : read_line_of (line_a ++ 13 ∷ []) room ≡ wrote (refusal 36 0 0) 0 room
  pub both_ends : read_line_of (line_a ++ 13 ∷ 10 ∷ []) room ≡ wrote (refusal 36 0 0) 0 room
  pub two_feeds : read_line_of (line_a ++ 10 ∷ 10 ∷ []) room ≡ wrote (refusal 36 0 0) 0 room
  -- 37: the first character of another sort; a line feed as character 81 is one
  pub feed_as_81 : read_line_of (take 80 line_a ++ 10 ∷ []) room ≡ wrote (refusal 37 81 0) 0 room
  pub first_of_two : read_line_of (46 ∷ 120 ∷ 47 ∷ replicate 78 46) room ≡ wrote (refusal 37 2 0) 0 room
  pub below_0 : read_line_of (47 ∷ replicate 80 46) room ≡ wrote (refusal 37 1 0) 0 room
  pub above_9 : read_line_of (58 ∷ replicate 80 46) room ≡ wrote (refusal 37 1 0) 0 room
  -- 34, before all else: 242 bytes, however few the givens
  pub too_short : read_line_of (replicate 81 46) (replicate 242 9) ≡ wrote (refusal 34 0 0) 0 (replicate 242 9)
  pub before_36 : read_line_of [] [] ≡ wrote (refusal 34 0 0) 0 []
  pub just_long_enough : read_line_of (replicate 81 46) (replicate 243 9) ≡ wrote accepted 0 (replicate 243 9)
  -- writing: 34 for 80 bytes, none for 81; 2, and before 34, for the board of a refused opening, which has no solution
  pub write_too_short : write_line_of (open_g []).answer.board (replicate 80 9) ≡ wrote (refusal 34 0 0) 0 (replicate 80 9)
  pub write_long_enough : write_line_of (open_g []).answer.board (replicate 81 9) ≡ wrote accepted 81 (replicate 81 46)
  pub no_board : write_line_of zero_board (replicate 81 9) ≡ wrote (refusal 2 0 0) 0 (replicate 81 9)
  pub before_34 : write_line_of zero_board [] ≡ wrote (refusal 2 0 0) 0 []

pub record LineTheorem : Type 0 where
  pub written_read :
      (b : Board) (output : List ℕ)
      → is_board b ≡ true
      → line_bytes ≤ length output
      → Yields (bytes_in (write_line_of b output)) (givens_of b)
  pub read_written :
      (line room solution journal checks : List ℕ) (calls : List Call) (output : List ℕ)
      → (read_line_of line room).answer.refusal ≡ accepted
      → (open_of (bytes_in (read_line_of line room)) solution journal checks).answer.refusal ≡ accepted
      → line_bytes ≤ length output
      → write_line_of (after (started (open_of (bytes_in (read_line_of line room)) solution journal checks)) calls).board output
      ≡ wrote accepted line_bytes (over output 0 (dotted_line line))
  pub ascends : (line : List ℕ) → ascending (line_givens line) ≡ true
  pub read_refused :
      (line output : List ℕ)
      → ((read_line_of line output).answer.refusal.number ≡ 0 → ⊥)
      → Untouched (read_line_of line output) output
  pub write_refused :
      (b : Board) (output : List ℕ)
      → ((write_line_of b output).answer.refusal.number ≡ 0 → ⊥)
      → Untouched (write_line_of b output) output
  -- every board that calls reach, from an opening or from a reopening, has a line: that of the givens that it was
  -- opened with; and the line of a fresh board yields the very bytes that opened it
  pub reached :
      (s : Session) (r : Reached s) (output : List ℕ)
      → line_bytes ≤ length output
      → Yields (bytes_in (write_line_of s.board output)) r.givens
  pub opened :
      (givens solution journal checks output room : List ℕ)
      → (open_of givens solution journal checks).answer.refusal ≡ accepted
      → line_bytes ≤ length output
      → givens_room ≤ length room
      → read_line_of (bytes_in (write_line_of (open_of givens solution journal checks).answer.board output)) room
      ≡ wrote accepted (length givens) (over room 0 givens)
  pub rows : LineRows
