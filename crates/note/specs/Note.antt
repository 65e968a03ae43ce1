-- Notes of document 01 (note.rs): a note is a `u16`; mark d is the bit of value 2 to the power d, d from 1 to 9.
-- Assumes nothing.
use Rattle.std.specs.Prelude.{ℕ, ◌+◌, ◌-◌, ◌/◌, ◌%◌, ◌^◌, Bool, List, ◌++◌, ltb, eqb, length, replicate}
use Rattle.sudoku.specs.Tests.{pick, both, among}
use Rattle.sudoku.specs.Grid.{in_range}

-- mark d stands in the note; no number but 1 to 9 is a mark
unfoldable pub contains : ℕ → ℕ → Bool
contains note d = both (in_range d) (eqb (note / 2 ^ d % 2) 1)

-- the note with mark d written, where d is 1 to 9
unfoldable pub with_mark : ℕ → ℕ → ℕ
with_mark note d = pick (contains note d) note (pick (in_range d) (note + 2 ^ d) note)

-- the note with mark d struck
unfoldable pub without : ℕ → ℕ → ℕ
without note d = pick (contains note d) (note - 2 ^ d) note

-- the marks of a note, ascending
unfoldable pub marks : ℕ → List ℕ
marks note = among (contains note) 9 1

-- no bit but 1 to 9
unfoldable pub is_note : ℕ → Bool
is_note note = both (eqb (note % 2) 0) (ltb note (2 ^ 10))

-- how many marks stand in the note
unfoldable pub len_of : ℕ → ℕ
len_of note = length (marks note)

-- no mark stands in the note
unfoldable pub is_empty : ℕ → Bool
is_empty note = eqb (len_of note) 0

-- the marks of a note, ascending, then zeros up to nine entries
unfoldable pub digits_of : ℕ → List ℕ
digits_of note = marks note ++ replicate (9 - len_of note) 0

-- the value of mark d: 2 to the power d where d is 1 to 9, else 0
unfoldable pub power_of : ℕ → ℕ
power_of d = pick (in_range d) (2 ^ d) 0
