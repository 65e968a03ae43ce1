-- How the code lays a record into the output: the bytes of one cell's given, and what the record's groups are.
-- Assumes nothing.
use Rattle.std.specs.Prelude.{ℕ, List, [], ◌∷◌, map}
use Rattle.puzzle.specs.Givens.{is_given}
use Rattle.sudoku.specs.Tests.{pick, listed}
use Rattle.sudoku.specs.Grid.{at, row_of, column_of}
use Rattle.journal.specs.Kinds.{given_kind}
use Rattle.journal.specs.Slots.{slot_at, move_of}
use Rattle.journal.specs.StoredChecks.{asked_at}
use Rattle.board.specs.declared.Board.{Board}
use Rattle.record.specs.declared.Item.{Item}
use Rattle.record.specs.declared.Item.TheVariants.{Played}
use Rattle.record.specs.Items.{encode_all, given_item, check_item}
use Rattle.record.specs.Write.{givens_of, moves_of}

-- the item of a cell's given; no bytes where it is none
unfoldable pub given_bytes : List ℕ → List ℕ → ℕ → List ℕ
given_bytes given digits cell =
    pick (is_given given cell) (given_kind ∷ row_of cell ∷ column_of cell ∷ at digits cell ∷ []) []

-- the items of slot n of a journal, and of stored check n
abbrev pub move_in : List ℕ → ℕ → Item
move_in journal n = Played (move_of (slot_at journal n))

abbrev pub check_in : List ℕ → ℕ → Item
check_in checks n = check_item (asked_at checks n)

-- the items that a function answers for the numbers 1 to count
unfoldable pub bytes_to : (ℕ → Item) → ℕ → List ℕ
bytes_to items count = encode_all (listed items count 1)

-- the items of a board's givens, and of the moves of slots 1 to made
unfoldable pub givens_bytes : Board → List ℕ
givens_bytes b = encode_all (map given_item (givens_of b))

unfoldable pub moves_bytes : List ℕ → ℕ → List ℕ
moves_bytes journal made = encode_all (map Played (moves_of journal made))
