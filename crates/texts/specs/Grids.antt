-- Puzzles and solutions as text: 81 cells row by row, 1 to 9 for a digit, a full stop or 0 for an empty cell.
-- White space is passed over.
-- Assumes nothing.
use Rattle.std.specs.Prelude.{ℕ, ◌+◌, Bool, List, Result, Ok, Err, ltb, leb, eqb, length, get_or, set, replicate}
use Rattle.sudoku.specs.Tests.{pick, both, either, run}
use Rattle.puzzle.specs.Text.{cell_value}
use Rattle.texts.specs.declared.CellsError.{CellsError}
use Rattle.texts.specs.declared.CellsError.TheVariants.{Wrong, Many, Few}

-- blank, tab, line end and the like
unfoldable pub is_space : ℕ → Bool
is_space byte = either (eqb byte 32) (both (leb 9 byte) (leb byte 13))

-- what is found in a text: how many cells (82 where there are more than 81), the first 81 of them, and the first
-- character that is neither a cell nor white space, counted from 1; 0 where there is none
pub record Cells : Type 0 where
  pub cells : List ℕ
  pub count : ℕ
  pub wrong : ℕ

unfoldable pub no_cells : Cells
no_cells = record { cells = replicate 81 0; count = 0; wrong = 0 }

-- what is found while no character is wrong: the cells, and how many there are
abbrev pub so_far : List ℕ → ℕ → Cells
so_far cells count = record { cells = cells; count = count; wrong = 0 }

-- one cell more: 81 are kept, and beyond them only that there are more
unfoldable pub with_cell : Cells → ℕ → Cells
with_cell s value =
    pick (ltb s.count 81)
    (record { cells = set s.cells s.count value; count = s.count + 1; wrong = s.wrong })
    (record { cells = s.cells; count = 82; wrong = s.wrong })

-- character n of the text, counted from 1; nothing after a wrong one counts
unfoldable pub with_character : Cells → ℕ → ℕ → Cells
with_character s n byte =
    pick (eqb s.wrong 0)
    (pick (is_space byte) s
    (pick (leb (cell_value byte) 9) (with_cell s (cell_value byte))
    (record { cells = s.cells; count = s.count; wrong = n })))
    s

-- the cells of a text
unfoldable pub cells_of : List ℕ → Cells
cells_of text = run (λ s i. with_character s (i + 1) (get_or text i 0)) no_cells (length text) 0

-- the 81 cells of what was found in a text, or why it has not 81: by its first wrong character, counted from 1, with how
-- many cells come before it, or else by how many there are
unfoldable pub judged : Cells → Result (List ℕ) CellsError
judged s =
    pick (eqb s.wrong 0)
    (pick (ltb s.count 81) (Err (Few s.count)) (pick (eqb s.count 81) (Ok s.cells) (Err Many)))
    (Err (Wrong s.wrong s.count))

-- the 81 cells of a text, or why it has not 81
unfoldable pub grid_of : List ℕ → Result (List ℕ) CellsError
grid_of text = judged (cells_of text)
