-- Slots of document 01 (journal.rs): move n is slot n, eight bytes: kind,
-- row, column, digit, digit before, and three bytes, low first, of the mask.
-- The layout is read and written here and nowhere else.
-- Assumes nothing.
use Rattle.std.specs.Prelude.{ℕ, ◌+◌, ◌-◌, ◌*◌, ◌^◌, Bool, not, List, [], ◌∷◌, Option, Some, None, leb, ltb, eqb, get_or}
use Rattle.sudoku.specs.Tests.{pick, both, either}
use Rattle.sudoku.specs.Grid.{in_range, on_grid, cell_of}
use Rattle.journal.specs.declared.DigitChange.{DigitChange}
use Rattle.journal.specs.declared.Move.{Move}
use Rattle.journal.specs.declared.Move.TheVariants.{Place, Erase, WriteMark, StrikeMark}
use Rattle.journal.specs.declared.Slot.{Slot}
use Rattle.puzzle.specs.Givens.{is_given}
use Rattle.journal.specs.Limits.{slot_bytes}
use Rattle.journal.specs.Kinds.{place_kind, erase_kind, write_kind, strike_kind}
use Rattle.journal.specs.Bytes.{part, low, second, third, three}
use Rattle.journal.specs.State.{State, kind_of, row_in, column_in, digit_in, before, struck}

-- the slot of a move with what it displaces, made in a state
unfoldable pub slot_for : State → Move → Slot
slot_for s m =
    record { kind = kind_of m; row = row_in m; column = column_in m; digit = digit_in m; before = before s m; struck = struck s m }

-- the slot of a move that strikes no mark
abbrev pub plain_slot : ℕ → ℕ → ℕ → ℕ → ℕ → Slot
plain_slot kind row column digit before =
    record { kind = kind; row = row; column = column; digit = digit; before = before; struck = 0 }

-- the eight bytes of a slot
unfoldable pub bytes_of : Slot → List ℕ
bytes_of slot =
    slot.kind
    ∷ slot.row
    ∷ slot.column
    ∷ slot.digit
    ∷ slot.before
    ∷ low slot.struck
    ∷ second slot.struck
    ∷ third slot.struck
    ∷ []

-- where slot n starts in the journal, n from 1
unfoldable pub slot_start : ℕ → ℕ
slot_start n = slot_bytes * (n - 1)

-- the part of the journal that holds move n
unfoldable pub slot_part : List ℕ → ℕ → List ℕ
slot_part journal n = part journal (slot_start n) slot_bytes

-- slot n, read
unfoldable pub slot_at : List ℕ → ℕ → Slot
slot_at journal n =
    let start = slot_start n in
    record {
      kind = get_or journal start 0;
      row = get_or journal (start + 1) 0;
      column = get_or journal (start + 2) 0;
      digit = get_or journal (start + 3) 0;
      before = get_or journal (start + 4) 0;
      struck = three (get_or journal (start + 5) 0) (get_or journal (start + 6) 0) (get_or journal (start + 7) 0);
    }

-- the move of a slot, by its kind
unfoldable pub move_of : Slot → Move
move_of slot =
    pick (eqb slot.kind place_kind) (Place slot.row slot.column slot.digit)
    (pick (eqb slot.kind erase_kind) (Erase slot.row slot.column)
    (pick (eqb slot.kind write_kind) (WriteMark slot.row slot.column slot.digit) (StrikeMark slot.row slot.column slot.digit)))

-- a position is on the grid and no given's
unfoldable pub is_free : List ℕ → ℕ → ℕ → Bool
is_free given row column = both (on_grid row column) (not (is_given given (cell_of row column)))

-- the fields lie in their ranges for each kind. Place: a digit, a digit before of 0 to 9, a mask of twenty bits
unfoldable pub sound_place : Slot → Bool
sound_place slot = both (in_range slot.digit) (both (leb slot.before 9) (ltb slot.struck (2 ^ 20)))

-- erase: digit 0, a digit before of 1 to 9, no mask
unfoldable pub sound_erase : Slot → Bool
sound_erase slot = both (eqb slot.digit 0) (both (in_range slot.before) (eqb slot.struck 0))

-- marks: a digit, digit before 0, no mask
unfoldable pub sound_mark : Slot → Bool
sound_mark slot = both (in_range slot.digit) (both (eqb slot.before 0) (eqb slot.struck 0))

-- a slot is sound when its fields lie in these ranges and its row and column are on the grid and no given's
unfoldable pub is_sound : List ℕ → Slot → Bool
is_sound given slot =
    both (is_free given slot.row slot.column)
    (either (both (eqb slot.kind place_kind) (sound_place slot))
    (either (both (eqb slot.kind erase_kind) (sound_erase slot))
    (both (either (eqb slot.kind write_kind) (eqb slot.kind strike_kind)) (sound_mark slot))))

-- what a slot's move does to the digit of its cell: a place puts
-- its digit there, an erase empties it, and a mark changes no digit
unfoldable pub digit_change : Slot → Option DigitChange
digit_change slot =
    pick (eqb slot.kind place_kind) (Some (record { before = slot.before; after = slot.digit }))
    (pick (eqb slot.kind erase_kind) (Some (record { before = slot.before; after = 0 })) None)
