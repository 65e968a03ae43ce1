-- The play calls of document 01 (board.rs, error.rs) with the pencil of document 02, point 3: place, erase, pencil,
-- undo, redo; and the latest and the next move. Place, erase and pencil ask, and the state decides which of the four
-- moves that becomes.
-- Each call's refusals stand as a list of tests in the order of their numbers: the first that holds decides.
-- A refused call leaves the board and the lent journal as they were.
-- Assumes nothing.
use Rattle.std.specs.Prelude.{ℕ, ◌+◌, ◌*◌, Bool, not, List, [], ◌∷◌, ◌++◌, leb, eqb, length}
use Rattle.puzzle.specs.Givens.{is_on, is_given}
use Rattle.sudoku.specs.Tests.{Test, ◌⇒◌, first, pick, both}
use Rattle.sudoku.specs.Grid.{in_range, on_grid, cell_of}
use Rattle.note.specs.Note.{contains}
use Rattle.puzzle.specs.declared.Refusal.{Refusal}
use Rattle.puzzle.specs.Refusals.{refusal, accepted, refused_if, or_else, first_refused}
use Rattle.journal.specs.declared.Move.{Move}
use Rattle.journal.specs.declared.Move.TheVariants.{Place, Erase, WriteMark, StrikeMark}
use Rattle.journal.specs.declared.Slot.{Slot}
use Rattle.journal.specs.Limits.{max_moves, slot_bytes, journal_bytes}
use Rattle.journal.specs.Bytes.{over}
use Rattle.journal.specs.State.{State, digit_at, note_at, holds_players_digit, accepts_marks, perform, perform_again, take_back, stands_as_left, stands_as_found}
use Rattle.journal.specs.Slots.{slot_for, bytes_of, slot_at, slot_part, move_of, is_sound}
use Rattle.journal.specs.StoredChecks.{is_sound_check}
use Rattle.journal.specs.Counts.{recorded, taken_back, retaken}
use Rattle.board.specs.declared.Board.{Board}
use Rattle.board.specs.declared.Answer.{Answer}
use Rattle.board.specs.Board.{state_of, counts_of, moved, lent_tests}
use Rattle.board.specs.Open.{answer}
use Rattle.play.specs.declared.Play.{Play}
use Rattle.play.specs.declared.Play.TheVariants as play

-- what a play call answers, and the lent journal afterwards
pub record Played : Type 0 where
  pub answer : Answer
  pub journal : List ℕ

abbrev pub played : Refusal → Board → List ℕ → Played
played r b journal = record { answer = answer r b; journal = journal }

-- 3 to 11, for each move in its order: what replay asks of a record's moves
unfoldable pub move_tests : State → Move → List Test
move_tests s (Place row column digit) =
    (not (on_grid row column) ⇒ 3)
    ∷ (is_on s.solved ⇒ 4)
    ∷ (is_given s.given (cell_of row column) ⇒ 5)
    ∷ (not (in_range digit) ⇒ 8)
    ∷ (eqb (digit_at s (cell_of row column)) digit ⇒ 9)
    ∷ []
move_tests s (Erase row column) =
    (not (on_grid row column) ⇒ 3) ∷ (is_on s.solved ⇒ 4) ∷ (not (holds_players_digit s (cell_of row column)) ⇒ 6) ∷ []
move_tests s (WriteMark row column digit) =
    (not (on_grid row column) ⇒ 3)
    ∷ (is_on s.solved ⇒ 4)
    ∷ (not (accepts_marks s (cell_of row column)) ⇒ 7)
    ∷ (not (in_range digit) ⇒ 8)
    ∷ (contains (note_at s (cell_of row column)) digit ⇒ 10)
    ∷ []
move_tests s (StrikeMark row column digit) =
    (not (on_grid row column) ⇒ 3)
    ∷ (is_on s.solved ⇒ 4)
    ∷ (not (accepts_marks s (cell_of row column)) ⇒ 7)
    ∷ (not (contains (note_at s (cell_of row column)) digit) ⇒ 11)
    ∷ []

-- the move that a call makes: the pencil strikes a mark that is present and writes one that is absent.
-- For a position off the grid that is looked up in cell 1, which changes nothing: 3 comes first
unfoldable pub move_for : State → Play → Move
move_for s (play.Place row column digit) = Place row column digit
move_for s (play.Erase row column) = Erase row column
move_for s (play.Pencil row column digit) =
    pick (contains (note_at s (cell_of row column)) digit) (StrikeMark row column digit) (WriteMark row column digit)

-- 3 to 9, for each call in its order: place and erase are asked what their moves are, the pencil 3 4 7 8
unfoldable pub play_tests : State → Play → List Test
play_tests s (play.Place row column digit) = move_tests s (Place row column digit)
play_tests s (play.Erase row column) = move_tests s (Erase row column)
play_tests s (play.Pencil row column digit) =
    (not (on_grid row column) ⇒ 3)
    ∷ (is_on s.solved ⇒ 4)
    ∷ (not (accepts_marks s (cell_of row column)) ⇒ 7)
    ∷ (not (in_range digit) ⇒ 8)
    ∷ []

-- place: 1 2 3 4 5 8 9 15; erase: 1 2 3 4 6 15; pencil: 1 2 3 4 7 8 15
unfoldable pub call_tests : Board → List ℕ → Play → List Test
call_tests b journal p =
    lent_tests (eqb (length journal) journal_bytes) b (play_tests (state_of b) p ++ ((eqb b.standing max_moves ⇒ 15) ∷ []))

-- a move performed and recorded: its one slot is written at the standing count, everything else of the journal stays
unfoldable pub record_move : Board → List ℕ → Move → Played
record_move b journal m =
    played accepted (moved b (perform (state_of b) m) (recorded (counts_of b)))
    (over journal (slot_bytes * b.standing) (bytes_of (slot_for (state_of b) m)))

unfoldable pub play_of : Board → List ℕ → Play → Played
play_of b journal p =
    let n = first (call_tests b journal p) in
    pick (eqb n 0) (record_move b journal (move_for (state_of b) p)) (played (refusal n 0 0) b journal)

unfoldable pub place_of : Board → List ℕ → ℕ → ℕ → ℕ → Played
place_of b journal row column digit = play_of b journal (play.Place row column digit)

unfoldable pub erase_of : Board → List ℕ → ℕ → ℕ → Played
erase_of b journal row column = play_of b journal (play.Erase row column)

unfoldable pub pencil_of : Board → List ℕ → ℕ → ℕ → ℕ → Played
pencil_of b journal row column digit = play_of b journal (play.Pencil row column digit)

-- a refusal by number alone, but for 14, whose place is the slot's number
unfoldable pub slot_refusal : ℕ → ℕ → Refusal
slot_refusal n slot = refusal n (pick (eqb n 14) slot 0) 0

-- 14 of slot n: it is unsound
unfoldable pub unsound_slot : List ℕ → List ℕ → ℕ → Refusal
unsound_slot given journal n = refused_if (not (is_sound given (slot_at journal n))) (refusal 14 n 0)

-- 14 of stored check n, with inner 1: it is unsound
unfoldable pub unsound_check : List ℕ → List ℕ → ℕ → Refusal
unsound_check given checks n = refused_if (not (is_sound_check given checks n)) (refusal 14 n 1)

-- what writing and readings test of a board and its journal: 1; 2; 14 of slots 1 to made, place naming the first
unfoldable pub journal_refusal : Bool → Board → List ℕ → Refusal
journal_refusal fits b journal =
    or_else (refusal (first (lent_tests fits b [])) 0 0) (first_refused (unsound_slot b.given journal) b.made 1)

-- the slot is sound, and what it changed stands as the move left it
unfoldable pub can_take_back : State → Slot → Bool
can_take_back s slot = both (is_sound s.given slot) (stands_as_left s (move_of slot) slot.struck)

-- undo: 1 2 4 12, which need no slot and of the journal its length alone, and 14
unfoldable pub undo_before : Board → ℕ → List Test
undo_before b bytes = lent_tests (eqb bytes journal_bytes) b ((is_on b.solved ⇒ 4) ∷ (eqb b.standing 0 ⇒ 12) ∷ [])

unfoldable pub undo_tests : Board → List ℕ → List Test
undo_tests b journal =
    undo_before b (length journal) ++ ((not (can_take_back (state_of b) (slot_at journal b.standing)) ⇒ 14) ∷ [])

-- the latest standing move taken back as its slot says; no slot is written
unfoldable pub undone : Board → Slot → Board
undone b slot = moved b (take_back (state_of b) (move_of slot) slot.before slot.struck) (taken_back (counts_of b))

unfoldable pub undo_of : Board → List ℕ → Answer
undo_of b journal =
    let n = first (undo_tests b journal) in
    pick (eqb n 0) (answer accepted (undone b (slot_at journal b.standing))) (answer (slot_refusal n b.standing) b)

-- the slot is sound, and what it changes stands as the move found it
unfoldable pub can_retake : State → Slot → Bool
can_retake s slot = both (is_sound s.given slot) (stands_as_found s (move_of slot) slot.before slot.struck)

-- redo: 1 2 4 13, and 14
unfoldable pub redo_before : Board → ℕ → List Test
redo_before b bytes = lent_tests (eqb bytes journal_bytes) b ((is_on b.solved ⇒ 4) ∷ (leb b.made b.standing ⇒ 13) ∷ [])

unfoldable pub redo_tests : Board → List ℕ → List Test
redo_tests b journal =
    redo_before b (length journal) ++ ((not (can_retake (state_of b) (slot_at journal (b.standing + 1))) ⇒ 14) ∷ [])

-- the next move performed again as its slot says; no slot is written
unfoldable pub redone : Board → Slot → Board
redone b slot = moved b (perform_again (state_of b) (move_of slot) slot.struck) (retaken (counts_of b))

unfoldable pub redo_of : Board → List ℕ → Answer
redo_of b journal =
    let n = first (redo_tests b journal) in
    pick (eqb n 0) (answer accepted (redone b (slot_at journal (b.standing + 1)))) (answer (slot_refusal n (b.standing + 1)) b)

-- the latest standing move: 1 2 12; the part of the lent journal that
-- holds it, an empty part after a refusal. A solved board is no obstacle
unfoldable pub latest_number : Board → List ℕ → ℕ
latest_number b journal = first (lent_tests (eqb (length journal) journal_bytes) b ((eqb b.standing 0 ⇒ 12) ∷ []))

unfoldable pub latest_part : Board → List ℕ → List ℕ
latest_part b journal = pick (eqb (latest_number b journal) 0) (slot_part journal b.standing) []

-- the next move to redo: 1 2 13
unfoldable pub next_number : Board → List ℕ → ℕ
next_number b journal = first (lent_tests (eqb (length journal) journal_bytes) b ((leb b.made b.standing ⇒ 13) ∷ []))

unfoldable pub next_part : Board → List ℕ → List ℕ
next_part b journal = pick (eqb (next_number b journal) 0) (slot_part journal (b.standing + 1)) []
