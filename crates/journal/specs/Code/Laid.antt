-- Bytes laid over lent memory by a function that tests the room itself, since its callers owe it no fact.
-- Assumes nothing.
use Rattle.std.specs.Prelude.{ℕ, ◌+◌, List, leb, length}
use Rattle.sudoku.specs.Tests.{pick}
use Rattle.journal.specs.Bytes.{over}

-- the memory with the bytes laid over it where they fit into it; where they do not, it stays as it was
unfoldable pub laid : List ℕ → ℕ → List ℕ → List ℕ
laid l start bytes = pick (leb (start + length bytes) (length l)) (over l start bytes) l
