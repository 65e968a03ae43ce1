-- The kind bytes of document 01 (journal.rs, record.rs): of moves in slots
-- and in records, and of a record's other items. Each number has one place.
-- Assumes nothing.
use Rattle.std.specs.Prelude.{ℕ, Result, Ok, Err, eqb}
use Rattle.sudoku.specs.Tests.{pick}
use Rattle.journal.specs.declared.MoveKind.{MoveKind}
use Rattle.journal.specs.declared.MoveKind.TheVariants.{Place, Erase, WriteMark, StrikeMark}
use Rattle.journal.specs.declared.NoMove.{NoMove}

-- a given, in a record
abbrev pub given_kind : ℕ
given_kind = 1

-- the four moves, in a slot and in a record
abbrev pub place_kind : ℕ
place_kind = 2

abbrev pub erase_kind : ℕ
erase_kind = 3

abbrev pub write_kind : ℕ
write_kind = 4

abbrev pub strike_kind : ℕ
strike_kind = 5

-- the count of undone moves, and a check, in a record
abbrev pub undone_kind : ℕ
undone_kind = 6

abbrev pub check_kind : ℕ
check_kind = 7

-- the byte of each kind of move
unfoldable pub kind_byte : MoveKind → ℕ
kind_byte Place = place_kind
kind_byte Erase = erase_kind
kind_byte WriteMark = write_kind
kind_byte StrikeMark = strike_kind

-- the kind of move that a byte stands for; other bytes stand for none
unfoldable pub kind_at : ℕ → Result MoveKind NoMove
kind_at byte =
    pick (eqb byte place_kind) (Ok Place)
    (pick (eqb byte erase_kind) (Ok Erase)
    (pick (eqb byte write_kind) (Ok WriteMark) (pick (eqb byte strike_kind) (Ok StrikeMark) (Err (record {})))))
