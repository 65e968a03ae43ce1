-- The drawn board: 39 lines of 61 characters, the last of each its end. The frame of the grid begins at line 1 and
-- column 3; the numbers of the columns stand above and below it, those of the rows left and right. A cell has three
-- lines of five characters, a blank at either side of its nine spots. Heavier lines stand around the boxes.
-- Assumes nothing.
use Rattle.std.specs.Prelude.{ℕ, ◌+◌, ◌-◌, ◌*◌, ◌/◌, ◌%◌, Bool, List, ltb, leb, eqb}
use Rattle.sudoku.specs.Tests.{pick, both, either, listed}
use Rattle.sudoku.specs.Grid.{cell_of, at}
use Rattle.note.specs.Note.{contains, is_empty}
use Rattle.puzzle.specs.Puzzle.{holds_digit, conflicts}
use Rattle.puzzle.specs.Givens.{is_given}
use Rattle.screen.specs.declared.Spot.{Spot}
use Rattle.screen.specs.declared.Spot.TheVariants.{Frame, Inside}
use Rattle.screen.specs.declared.Colour.{Colour}
use Rattle.screen.specs.declared.Colour.TheVariants.{Plain, Given, Player, Clash, Marks}

abbrev pub width : ℕ
width = 61

-- 39 lines
abbrev pub size : ℕ
size = 2379

-- the characters that are used, by their codes
abbrev pub line_end : ℕ
line_end = 10

abbrev pub blank : ℕ
blank = 32

abbrev pub clash_sign : ℕ
clash_sign = 33  -- !

abbrev pub no_mark_sign : ℕ
no_mark_sign = 46  -- .

abbrev pub given_left : ℕ
given_left = 91  -- [

abbrev pub given_right : ℕ
given_right = 93  -- ]

-- a number from 0 to 9 as a character; no other number is shown
unfoldable pub figure : ℕ → ℕ
figure n = pick (leb n 9) (48 + n) 63

-- a line across, at line y of the frame: # where a heavier line stands upright, + where a lighter one does, else =
-- around a box and - within it
unfoldable pub across : ℕ → ℕ → ℕ
across y x = pick (eqb (x % 18) 0) 35 (pick (eqb (x % 6) 0) 43 (pick (eqb (y % 12) 0) 61 45))

-- a line upright, at column x of the frame: # around a box and | within it
unfoldable pub upright : ℕ → ℕ
upright x = pick (eqb (x % 18) 0) 35 124

-- the number of a column stands over the middle of its cells, that of a row beside the middle
unfoldable pub column_label : ℕ → ℕ
column_label x = pick (eqb x 0) blank (pick (eqb (x % 6) 0) (figure (x / 6)) blank)

unfoldable pub row_label : ℕ → ℕ → ℕ
row_label y x = pick (both (eqb (y % 4) 2) (either (eqb x 1) (eqb x 59))) (figure (y / 4 + 1)) blank

-- which spot of a cell its line i, from 1 to 3, has at column j, from 1 to 5: 1 to 9, as marks are, and 0 for the
-- blanks at the sides
unfoldable pub spot_of : ℕ → ℕ → ℕ
spot_of i j = pick (both (leb 2 j) (leb j 4)) (3 * (i - 1) + (j - 1)) 0

-- what line y of the frame shows at column x of it
unfoldable pub framed : ℕ → ℕ → Spot
framed y x =
    pick (eqb (y % 4) 0) (Frame (across y x))
    (pick (eqb (x % 6) 0) (Frame (upright x))
    (Inside (cell_of (y / 4 + 1) (x / 6 + 1)) (spot_of (y % 4) (x % 6))))

-- what line y shows at column x
unfoldable pub placed : ℕ → ℕ → Spot
placed y x =
    pick (eqb x 60) (Frame line_end)
    (pick (either (eqb y 0) (eqb y 38)) (Frame (column_label x))
    (pick (either (ltb x 3) (ltb 57 x)) (Frame (row_label (y - 1) x))
    (framed (y - 1) (x - 3))))

-- the four spots at the corners of a cell
unfoldable pub is_corner : ℕ → Bool
is_corner spot = either (eqb spot 1) (either (eqb spot 3) (either (eqb spot 7) (eqb spot 9)))

-- a given stands between brackets
unfoldable pub bracket_at : ℕ → ℕ
bracket_at spot = pick (eqb spot 4) given_left (pick (eqb spot 6) given_right blank)

-- a cell that holds a digit: the digit in the middle, ! at the corners where the cell conflicts, brackets where it
-- is a given
unfoldable pub digit_sign : ℕ → Bool → Bool → ℕ → ℕ
digit_sign digit given clash spot =
    pick (eqb spot 5) (figure digit)
    (pick (is_corner spot) (pick clash clash_sign blank)
    (pick given (bracket_at spot) blank))

-- a cell without a digit: each mark at its own spot, a point at the spots of the others; blank where no mark stands
unfoldable pub mark_sign : ℕ → ℕ → ℕ
mark_sign note spot = pick (contains note spot) (figure spot) (pick (either (eqb spot 0) (is_empty note)) blank no_mark_sign)

-- a note under a digit is kept and not shown
unfoldable pub cell_sign : List ℕ → List ℕ → List ℕ → ℕ → ℕ → ℕ
cell_sign digits given notes cell spot =
    pick (holds_digit digits cell)
    (digit_sign (at digits cell) (is_given given cell) (conflicts digits cell) spot)
    (mark_sign (at notes cell) spot)

unfoldable pub sign_at : List ℕ → List ℕ → List ℕ → Spot → ℕ
sign_at digits given notes (Frame sign) = sign
sign_at digits given notes (Inside cell spot) = cell_sign digits given notes cell spot

-- character n of the drawn board
unfoldable pub sign_of : List ℕ → List ℕ → List ℕ → ℕ → ℕ
sign_of digits given notes n = sign_at digits given notes (placed (n / width) (n % width))

-- the drawn board
unfoldable pub picture_of : List ℕ → List ℕ → List ℕ → List ℕ
picture_of digits given notes = listed (sign_of digits given notes) size 0

-- colours: of the frame none, of a cell that of a given, of a player's digit, of one that conflicts, or of marks
unfoldable pub cell_colour : List ℕ → List ℕ → ℕ → Colour
cell_colour digits given cell =
    pick (holds_digit digits cell)
    (pick (conflicts digits cell) Clash (pick (is_given given cell) Given Player))
    Marks

unfoldable pub colour_at : List ℕ → List ℕ → Spot → Colour
colour_at digits given (Frame sign) = Plain
colour_at digits given (Inside cell spot) = cell_colour digits given cell

unfoldable pub colour_of : List ℕ → List ℕ → ℕ → Colour
colour_of digits given n = colour_at digits given (placed (n / width) (n % width))

-- the colour of each character of the drawn board
unfoldable pub colours_of : List ℕ → List ℕ → List Colour
colours_of digits given = listed (colour_of digits given) size 0
