-- What a file holds. Which bytes the disk has under a name no contract can say: a contract says that there is such a
-- content, and what is made of it.
-- Assumes nothing.
use Rattle.std.specs.Prelude.{ℕ, ◌<◌, ◌≡◌, Bool, List, Option, Some, None, eqb, length}
use Rattle.sudoku.specs.Tests.{pick, both}
use Rattle.texts.specs.Grids.{Cells, cells_of}

-- bytes of the buffer that a file is read into
abbrev pub file_bytes : ℕ
file_bytes = 8192

-- bytes of the memory that a name is held in
abbrev pub path_max : ℕ
path_max = 4096

-- the most bytes of a name under which something is saved
abbrev pub name_bytes : ℕ
name_bytes = 4000

-- what reading a file brings: its bytes, or nothing where it cannot be read or is too long
pub data Content : Type 0 where
  unread : Content
  holding : List ℕ → Content

-- how much may have been read: less than the buffer has
abbrev pub ReadInto : List ℕ → Type 0
ReadInto bytes = length bytes < file_bytes

-- a text is 81 cells
unfoldable pub is_whole : Cells → Bool
is_whole found = both (eqb found.wrong 0) (eqb found.count 81)

-- the cells of a text that is 81 cells; none of any other
unfoldable pub whole_cells : List ℕ → Option (List ℕ)
whole_cells text = pick (is_whole (cells_of text)) (Some (cells_of text).cells) None

-- the cells of a file; none where it cannot be read
unfoldable pub cells_in : Content → Option (List ℕ)
cells_in unread = None
cells_in (holding bytes) = whole_cells bytes

-- the cells are those of some file
pub record CellsRead (found : Option (List ℕ)) : Type 0 where
  pub file : Content
  pub are : found ≡ cells_in file
