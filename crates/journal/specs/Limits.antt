-- The limits of document 01 and the sizes of lent memory. Each number has one place.
-- Assumes nothing.
use Rattle.std.specs.Prelude.{ℕ, ◌*◌, ◌+◌}

-- moves that a journal holds
abbrev pub max_moves : ℕ
max_moves = 1024

-- checks that the check memory holds
abbrev pub max_checks : ℕ
max_checks = 256

-- bytes of a slot, and of a stored check
abbrev pub slot_bytes : ℕ
slot_bytes = 8

abbrev pub check_bytes : ℕ
check_bytes = 6

-- journal memory: 8,192 bytes
abbrev pub journal_bytes : ℕ
journal_bytes = slot_bytes * max_moves

-- check memory: 1,536 bytes
abbrev pub check_memory : ℕ
check_memory = check_bytes * max_checks

-- bytes of a record's items, the kind byte among them: a given; a move, at most; the undone count; a check
abbrev pub given_item_bytes : ℕ
given_item_bytes = 4

abbrev pub move_item_bytes : ℕ
move_item_bytes = 4

abbrev pub undone_item_bytes : ℕ
undone_item_bytes = 3

abbrev pub check_item_bytes : ℕ
check_item_bytes = 6

-- the longest record, with one cell to play: 5,955
abbrev pub record_bytes : ℕ
record_bytes = given_item_bytes * 80 + move_item_bytes * max_moves + undone_item_bytes + check_item_bytes * max_checks
