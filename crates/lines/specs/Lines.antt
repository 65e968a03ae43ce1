-- Puzzle lines of document 02, point 1: 81 characters, row by row, 1 to 9 for a given, a full stop or 0 for a blank,
-- with at most one line feed after it. Reading one into givens: refusals 34, 36, 37. Writing one: 2, 34.
-- Assumes nothing.
use Rattle.std.specs.Prelude.{ℕ, ◌+◌, ◌*◌, Bool, not, List, map, ltb, eqb, length, get_or, take, replicate}
use Rattle.sudoku.specs.Tests.{pick, both, either, listed}
use Rattle.sudoku.specs.Grid.{in_range, at}
use Rattle.puzzle.specs.declared.Given.{Given}
use Rattle.puzzle.specs.declared.Refusal.{Refusal}
use Rattle.puzzle.specs.Refusals.{refusal, refused_if, or_else, first_refused}
use Rattle.puzzle.specs.Givens.{is_given, givens_by, triple_bytes}
use Rattle.puzzle.specs.Puzzle.{holds_digit}
use Rattle.puzzle.specs.Text.{cell_value}
use Rattle.journal.specs.Bytes.{over}
use Rattle.board.specs.declared.Board.{Board}
use Rattle.board.specs.Board.{is_board}
use Rattle.record.specs.Write.{Wrote, wrote_by}
use Rattle.lines.specs.declared.Givens.{Givens}

-- ---- what a line says

-- characters of a line; and bytes of the givens of 81 cells, three for each
abbrev pub line_bytes : ℕ
line_bytes = 81

abbrev pub givens_room : ℕ
givens_room = 3 * 81

-- the length is 81, or 82 with a line feed last
unfoldable pub is_line : List ℕ → Bool
is_line line = either (eqb (length line) line_bytes) (both (eqb (length line) (line_bytes + 1)) (eqb (get_or line line_bytes 0) 10))

-- what character n, which is cell n's, says of the cell
unfoldable pub value_at : List ℕ → ℕ → ℕ
value_at line n = cell_value (at line n)

-- 37 A character of another sort, place its number
unfoldable pub other_sort : List ℕ → ℕ → Refusal
other_sort line n = refused_if (ltb 9 (value_at line n)) (refusal 37 n 0)

-- 36 Neither 81 characters nor 82 with a line feed last; then 37 of the first
unfoldable pub line_refusal : List ℕ → Refusal
line_refusal line = or_else (refused_if (not (is_line line)) (refusal 36 0 0)) (first_refused (other_sort line) 81 1)

-- what all 81 say
unfoldable pub values_of : List ℕ → List ℕ
values_of line = listed (value_at line) 81 1

-- the givens of a line: the cells whose character is 1 to 9
unfoldable pub line_givens : List ℕ → List Given
line_givens line = givens_by (λ cell. in_range (value_at line cell)) (value_at line) 81 1

-- ---- givens as opening takes them

-- the digits of 81 cells as givens: the cells that hold one
unfoldable pub digits_bytes : List ℕ → List ℕ
digits_bytes digits = triple_bytes (givens_by (holds_digit digits) (at digits) 81 1)

-- the same at the front of as many bytes as the givens of 81 cells have
unfoldable pub digits_givens : List ℕ → Givens
digits_givens digits = record { bytes = over (replicate givens_room 0) 0 (digits_bytes digits); length = length (digits_bytes digits) }

-- ---- reading

-- 34 Output below 243 bytes, however few the givens; then 36 and 37
unfoldable pub read_refusal : List ℕ → List ℕ → Refusal
read_refusal line output = or_else (refused_if (ltb (length output) givens_room) (refusal 34 0 0)) (line_refusal line)

-- the givens in the output as opening takes them, bytes beyond them as they were; a refusal leaves every byte
unfoldable pub read_line_of : List ℕ → List ℕ → Wrote
read_line_of line output = wrote_by (read_refusal line output) (triple_bytes (line_givens line)) output

-- ---- writing

-- the character of a cell: its digit where it is a given, else a full stop
unfoldable pub character_at : List ℕ → List ℕ → ℕ → ℕ
character_at given digits cell = pick (is_given given cell) (48 + at digits cell) 46

-- the line of a board, without a line feed
unfoldable pub line_of : Board → List ℕ
line_of b = listed (character_at b.given b.digits) 81 1

-- a line as it is written: each 0 made a full stop, and its line feed gone
unfoldable pub dotted : ℕ → ℕ
dotted byte = pick (eqb byte 48) 46 byte

unfoldable pub dotted_line : List ℕ → List ℕ
dotted_line line = map dotted (take line_bytes line)

-- 2; 34 Output below 81 bytes
unfoldable pub write_line_refusal : Board → List ℕ → Refusal
write_line_refusal b output = or_else (refused_if (not (is_board b)) (refusal 2 0 0)) (refused_if (ltb (length output) line_bytes) (refusal 34 0 0))

-- the line in the output, bytes beyond it as they were; a refusal leaves every byte
unfoldable pub write_line_of : Board → List ℕ → Wrote
write_line_of b output = wrote_by (write_line_refusal b output) (line_of b) output
