-- How a text from outside is shown.
-- Assumes nothing.
use Rattle.std.specs.Prelude.{ℕ, Bool, List, map, leb}
use Rattle.sudoku.specs.Tests.{pick, both}

-- blank to tilde
unfoldable pub is_printable : ℕ → Bool
is_printable byte = both (leb 32 byte) (leb byte 126)

-- a printable character, and ? for every other byte
unfoldable pub shown_byte : ℕ → ℕ
shown_byte byte = pick (is_printable byte) byte 63

-- each byte so
abbrev pub shown_text : List ℕ → List ℕ
shown_text text = map shown_byte text
