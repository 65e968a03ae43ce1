-- What the bytes of a file open: a record is reopened, and a text of cells is a puzzle whose digits are the givens; and
-- what a mailed line opens with the line of its solution. And what loading leaves: the board that was opened with its
-- memory, or the lent memory as it was.
-- Assumes nothing.
use Rattle.std.specs.Borrow.{Bor}
use Rattle.std.specs.Prelude.{ℕ, ◌≡◌, Bool, List, [], Option, Some, None, leb, eqb, length, get_or}
use Rattle.sudoku.specs.Tests.{pick, both, either}
use Rattle.puzzle.specs.Refusals.{is_accepted}
use Rattle.puzzle.specs.Givens.{triple_bytes}
use Rattle.board.specs.declared.Board.{Board}
use Rattle.board.specs.Open.{Opened, no_moves, no_checks, open_of}
use Rattle.record.specs.Reopen.{reopen_of}
use Rattle.lines.specs.Lines.{line_refusal, values_of, line_givens, digits_bytes}
use Rattle.texts.specs.Grids.{cells_of}
use Rattle.files.specs.Disk.{Content, unread, holding, is_whole, cells_in}

-- a record's first byte is the kind of its first item, 1 to 7; a text never starts so
unfoldable pub is_record : List ℕ → Bool
is_record bytes = both (leb 1 (get_or bytes 0 0)) (leb (get_or bytes 0 0) 7)

unfoldable pub open_bytes : List ℕ → List ℕ → List ℕ → List ℕ → Opened
open_bytes bytes solution journal checks =
    pick (is_record bytes) (reopen_of bytes solution journal checks) (open_of (digits_bytes (cells_of bytes).cells) solution journal checks)

-- a record, or a text of 81 cells
unfoldable pub is_openable : List ℕ → Bool
is_openable bytes = either (is_record bytes) (is_whole (cells_of bytes))

-- what loading answers, a board or none, and the lent memory afterwards
pub record Left : Type 0 where
  pub loaded : Option Board
  pub journal : List ℕ
  pub checks : List ℕ

abbrev pub left : Option Board → List ℕ → List ℕ → Left
left loaded journal checks = record { loaded = loaded; journal = journal; checks = checks }

-- nothing is opened: no board, and the lent memory stays as it was
abbrev pub nothing_loaded : Option Board
nothing_loaded = None

unfoldable pub stays : List ℕ → List ℕ → Left
stays journal checks = left nothing_loaded journal checks

abbrev pub loaded_board : Board → Option Board
loaded_board b = Some b

-- what was opened in memory apart takes the place of what was lent; where it was refused, that stays
unfoldable pub takes_place : Opened → List ℕ → List ℕ → Left
takes_place o journal checks =
    pick (is_accepted o.answer.refusal) (left (loaded_board o.answer.board) o.journal o.checks) (stays journal checks)

-- ---- files

-- what bytes open in memory of zeros
unfoldable pub open_apart : List ℕ → List ℕ → List ℕ → List ℕ → Left
open_apart bytes solution journal checks = takes_place (open_bytes bytes solution no_moves no_checks) journal checks

unfoldable pub load_bytes : List ℕ → List ℕ → List ℕ → List ℕ → Left
load_bytes bytes solution journal checks = pick (is_openable bytes) (open_apart bytes solution journal checks) (stays journal checks)

-- what a file opens with a solution
unfoldable pub load_file : Content → List ℕ → List ℕ → List ℕ → Left
load_file unread solution journal checks = stays journal checks
load_file (holding bytes) solution journal checks = load_bytes bytes solution journal checks

-- the same with the cells of a file for the solution; nothing is opened where there are none
unfoldable pub load_solved : Content → Option (List ℕ) → List ℕ → List ℕ → Left
load_solved file None journal checks = stays journal checks
load_solved file (Some solution) journal checks = load_file file solution journal checks

-- the same with the solution at hand where no file is named for one, else with the cells of that file, if it is whole
unfoldable pub load_of : List ℕ → Content → Content → List ℕ → List ℕ → List ℕ → Left
load_of named file answers atHand journal checks =
    pick (eqb (length named) 0) (load_file file atHand journal checks) (load_solved file (cells_in answers) journal checks)

-- the name of a solution's file; an empty one counts as none
unfoldable pub name_of : Option (Bor (List ℕ)) → List ℕ
name_of None = []
name_of (Some name) = name.now

-- what is left is what some file opens with a solution
pub record FileLoaded (solution journal checks : List ℕ) (after : Left) : Type 0 where
  pub file : Content
  pub is : after ≡ load_file file solution journal checks

-- what is left is what some file opens, with the solution at hand or that of another file
pub record FilesLoaded (named atHand journal checks : List ℕ) (after : Left) : Type 0 where
  pub file : Content
  pub answers : Content
  pub is : after ≡ load_of named file answers atHand journal checks

-- ---- mailed lines

-- what a line opens with a solution, in memory of zeros: nothing by 36 or 37
unfoldable pub open_line : List ℕ → List ℕ → List ℕ → List ℕ → Left
open_line line solution journal checks =
    pick (is_accepted (line_refusal line))
    (takes_place (open_of (triple_bytes (line_givens line)) solution no_moves no_checks) journal checks)
    (stays journal checks)

-- the same with the line of a solution: nothing where that is no line, and a blank in it is refused by 23
unfoldable pub load_line : List ℕ → List ℕ → List ℕ → List ℕ → Left
load_line line solution journal checks =
    pick (is_accepted (line_refusal solution)) (open_line line (values_of solution) journal checks) (stays journal checks)
