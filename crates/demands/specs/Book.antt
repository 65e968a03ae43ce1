-- The book of demand 3. It is kept from the givens, the solution
-- and the calls alone, without the board and memory handed to them.
-- It cites what a move does to digits and notes, the layout of slots,
-- stored checks and record items, and none of the calls' definitions.
-- Assumes nothing.
use Rattle.std.specs.Prelude.{ℕ, ◌+◌, ◌-◌, Bool, false, not, List, [], ◌∷◌, ◌++◌, map, eqb, length, take}
use Rattle.puzzle.specs.Givens.{is_on, is_given}
use Rattle.sudoku.specs.Tests.{◌⇒◌, first, pick, both, either}
use Rattle.sudoku.specs.Grid.{in_range, on_grid, cell_of}
use Rattle.note.specs.Note.{contains}
use Rattle.puzzle.specs.declared.Given.{Given}
use Rattle.puzzle.specs.Refusals.{refusal}
use Rattle.journal.specs.declared.Move.{Move}
use Rattle.journal.specs.declared.Move.TheVariants.{Place, Erase, WriteMark, StrikeMark}
use Rattle.journal.specs.Limits.{max_moves, max_checks}
use Rattle.journal.specs.State.{State, opening, digit_at, note_at, holds_players_digit, accepts_marks, perform}
use Rattle.journal.specs.Slots.{slot_for, bytes_of}
use Rattle.journal.specs.StoredChecks.{Stored, judge}
use Rattle.journal.specs.declared.Asked.{Asked}
use Rattle.record.specs.Items.{Parts, record_of}
use Rattle.play.specs.declared.Play.{Play}
use Rattle.play.specs.declared.Play.TheVariants as play
use Rattle.calls.specs.declared.Call.{Call}
use Rattle.calls.specs.declared.Call.TheVariants.{Make, Undo, Redo, Check}
use Rattle.calls.specs.Session.{Said}

-- givens, solution, moves, how many of them stand, checks. made counts its moves
pub record Book : Type 0 where
  pub givens : List Given
  pub solution : List ℕ
  pub moves : List Move
  pub standing : ℕ
  pub checks : List Stored

-- the book starts without moves or checks, standing 0
unfoldable pub new_book : List Given → List ℕ → Book
new_book givens solution = record { givens = givens; solution = solution; moves = []; standing = 0; checks = [] }

unfoldable pub made : Book → ℕ
made k = length k.moves

-- moves performed in order
unfoldable pub perform_all : State → List Move → State
perform_all s [] = s
perform_all s (m ∷ ms) = perform_all (perform s m) ms

-- its digits, notes and status come from performing moves 1 to standing, in order, on the givens and empty notes
unfoldable pub state_in : Book → State
state_in k = perform_all (opening k.givens) (take k.standing k.moves)

-- the kinds of calls
pub data Kind : Type 0 where
  place erase pencil undo redo check : Kind

unfoldable pub kind_in : Call → Kind
kind_in (Make (play.Place row column digit)) = place
kind_in (Make (play.Erase row column)) = erase
kind_in (Make (play.Pencil row column digit)) = pencil
kind_in Undo = undo
kind_in Redo = redo
kind_in (Check row column) = check

-- a number for each kind, to tell them apart
unfoldable pub ordinal : Kind → ℕ
ordinal place = 1
ordinal erase = 2
ordinal pencil = 3
ordinal undo = 4
ordinal redo = 5
ordinal check = 6

-- the call is of one of these kinds
unfoldable pub is_of : List Kind → Call → Bool
is_of [] c = false
is_of (kind ∷ kinds) c = either (eqb (ordinal (kind_in c)) (ordinal kind)) (is_of kinds c)

-- the cell and the digit that a call names; 0 where it names none
unfoldable pub cell_named : Call → ℕ
cell_named (Make (play.Place row column digit)) = cell_of row column
cell_named (Make (play.Erase row column)) = cell_of row column
cell_named (Make (play.Pencil row column digit)) = cell_of row column
cell_named Undo = 0
cell_named Redo = 0
cell_named (Check row column) = cell_of row column

unfoldable pub digit_named : Call → ℕ
digit_named (Make (play.Place row column digit)) = digit
digit_named (Make (play.Erase row column)) = 0
digit_named (Make (play.Pencil row column digit)) = digit
digit_named Undo = 0
digit_named Redo = 0
digit_named (Check row column) = 0

-- 3 NoSuchCell: the call names a position off the grid
unfoldable pub no_such_cell : Call → Bool
no_such_cell (Make (play.Place row column digit)) = not (on_grid row column)
no_such_cell (Make (play.Erase row column)) = not (on_grid row column)
no_such_cell (Make (play.Pencil row column digit)) = not (on_grid row column)
no_such_cell Undo = false
no_such_cell Redo = false
no_such_cell (Check row column) = not (on_grid row column)

-- 5 GivenCell (place)
unfoldable pub given_cell : State → Call → Bool
given_cell s c = both (is_of (place ∷ []) c) (is_given s.given (cell_named c))

-- 6 NoPlayersDigit (erase, check)
unfoldable pub no_players_digit : State → Call → Bool
no_players_digit s c = both (is_of (erase ∷ check ∷ []) c) (not (holds_players_digit s (cell_named c)))

-- 7 MarksNotAccepted (pencil)
unfoldable pub marks_not_accepted : State → Call → Bool
marks_not_accepted s c = both (is_of (pencil ∷ []) c) (not (accepts_marks s (cell_named c)))

-- 8 DigitOutOfRange (place, pencil)
unfoldable pub digit_out_of_range : Call → Bool
digit_out_of_range c = both (is_of (place ∷ pencil ∷ []) c) (not (in_range (digit_named c)))

-- 9 DigitAlreadyStands (place)
unfoldable pub digit_already_stands : State → Call → Bool
digit_already_stands s c = both (is_of (place ∷ []) c) (eqb (digit_at s (cell_named c)) (digit_named c))

-- 12 NothingToUndo, 13 NothingToRedo
unfoldable pub nothing_to_undo : Book → Call → Bool
nothing_to_undo k c = both (is_of (undo ∷ []) c) (eqb k.standing 0)

unfoldable pub nothing_to_redo : Book → Call → Bool
nothing_to_redo k c = both (is_of (redo ∷ []) c) (eqb k.standing (made k))

-- 15 Standing is 1,024 and a move would be recorded
unfoldable pub journal_full : Book → Call → Bool
journal_full k c = both (is_of (place ∷ erase ∷ pencil ∷ []) c) (eqb k.standing max_moves)

-- 16 256 checks are stored (check)
unfoldable pub checks_full : Book → Call → Bool
checks_full k c = both (is_of (check ∷ []) c) (eqb (length k.checks) max_checks)

-- a call to which 3 to 13, 15 or 16 applies in the book is refused by the
-- lowest; 0 where none applies. 4 applies to every call on a solved board, 10 and 11 to none: the pencil neither
-- writes a mark that is present nor strikes one that is absent
unfoldable pub refused_by : Book → Call → ℕ
refused_by k c =
    let s = state_in k in
    first
    ((no_such_cell c ⇒ 3)
    ∷ (is_on s.solved ⇒ 4)
    ∷ (given_cell s c ⇒ 5)
    ∷ (no_players_digit s c ⇒ 6)
    ∷ (marks_not_accepted s c ⇒ 7)
    ∷ (digit_out_of_range c ⇒ 8)
    ∷ (digit_already_stands s c ⇒ 9)
    ∷ (nothing_to_undo k c ⇒ 12)
    ∷ (nothing_to_redo k c ⇒ 13)
    ∷ (journal_full k c ⇒ 15)
    ∷ (checks_full k c ⇒ 16)
    ∷ [])

-- the same book with other moves and another standing count
unfoldable pub with_moves : Book → List Move → ℕ → Book
with_moves k moves standing =
    record { givens = k.givens; solution = k.solution; moves = moves; standing = standing; checks = k.checks }

-- the check of the digit that stands at a position: standing, its cell, the digit there and the verdict
unfoldable pub check_in : Book → ℕ → ℕ → Stored
check_in k row column = judge k.solution k.standing row column (digit_at (state_in k) (cell_of row column))

-- the move that such a call adds: a pencil call strikes a present mark and writes an absent one
unfoldable pub added : State → Play → Move
added s (play.Place row column digit) = Place row column digit
added s (play.Erase row column) = Erase row column
added s (play.Pencil row column digit) =
    pick (contains (note_at s (cell_of row column)) digit) (StrikeMark row column digit) (WriteMark row column digit)

-- an accepted call. Place, erase and pencil calls drop the moves after standing, add their own and raise standing by
-- one; undo lowers it by one, redo raises it by one; a check adds itself
unfoldable pub taken : Book → Call → Book
taken k (Make p) = with_moves k (take k.standing k.moves ++ (added (state_in k) p ∷ [])) (k.standing + 1)
taken k Undo = with_moves k k.moves (k.standing - 1)
taken k Redo = with_moves k k.moves (k.standing + 1)
taken k (Check row column) =
    record {
      givens = k.givens;
      solution = k.solution;
      moves = k.moves;
      standing = k.standing;
      checks = k.checks ++ (check_in k row column ∷ []);
    }

-- the verdict that an accepted call hears; false for any call but a check
unfoldable pub verdict : Book → Call → Bool
verdict k (Make p) = false
verdict k Undo = false
verdict k Redo = false
verdict k (Check row column) = (check_in k row column).right

-- a refused call changes nothing
unfoldable pub step : Book → Call → Book
step k c = pick (eqb (refused_by k c) 0) (taken k c) k

unfoldable pub says : Book → Call → Said
says k c =
    let n = refused_by k c in
    record { refusal = refusal n 0 0; right = both (eqb n 0) (verdict k c) }

-- the book after a list of calls, and what it says to each
unfoldable pub keep : Book → List Call → Book
keep k [] = k
keep k (c ∷ cs) = keep (step k c) cs

unfoldable pub says_all : Book → List Call → List Said
says_all k [] = []
says_all k (c ∷ cs) = says k c ∷ says_all (step k c) cs

-- moves are compared as slots: each with what it displaced when performed
unfoldable pub slots_from : State → List Move → List ℕ
slots_from s [] = []
slots_from s (m ∷ ms) = bytes_of (slot_for s m) ++ slots_from (perform s m) ms

unfoldable pub slots_in : Book → List ℕ
slots_in k = slots_from (opening k.givens) k.moves

-- a check without its verdict
unfoldable pub asked : Stored → Asked
asked c = record { standing = c.standing; row = c.row; column = c.column; digit = c.digit }

-- the book's record: its givens, moves, undone count and checks as record.rs's items
unfoldable pub parts_of_book : Book → Parts
parts_of_book k =
    record { givens = k.givens; moves = k.moves; undone = made k - k.standing; checks = map asked k.checks }

unfoldable pub record_in : Book → List ℕ
record_in k = record_of (parts_of_book k)
