-- What a move does (board.rs, note.rs): the four moves performed, what each
-- displaces, the same move performed again from its slot, and taken back.
-- A state is what the moves read and change: which cells are givens, the 81 digits, the 81 notes, and the status.
-- Flags are 1 for yes and 0 for no.
-- Assumes nothing.
use Rattle.std.specs.Prelude.{ℕ, ◌+◌, ◌*◌, ◌/◌, ◌%◌, Bool, true, not, List, [], ◌∷◌, eqb, replicate}
use Rattle.sudoku.specs.Tests.{pick, both, either, bit}
use Rattle.sudoku.specs.Grid.{cell_of, at, put, peers_of}
use Rattle.note.specs.Note.{contains, with_mark, without}
use Rattle.puzzle.specs.declared.Given.{Given}
use Rattle.puzzle.specs.Givens.{digits_of, given_cells, is_given}
use Rattle.puzzle.specs.Puzzle.{holds_digit, settled}
use Rattle.journal.specs.declared.Move.{Move}
use Rattle.journal.specs.declared.Move.TheVariants.{Place, Erase, WriteMark, StrikeMark}
use Rattle.journal.specs.Kinds.{place_kind, erase_kind, write_kind, strike_kind}

pub record State : Type 0 where
  pub given : List ℕ
  pub digits : List ℕ
  pub notes : List ℕ
  pub solved : ℕ

-- the givens and empty notes, from which every board starts
unfoldable pub opening : List Given → State
opening gs = record { given = given_cells gs; digits = digits_of gs; notes = replicate 81 0; solved = 0 }

-- of a cell: its digit (0 for none), its kept note. Whether it is a given its flag alone says: is_given of crate puzzle
unfoldable pub digit_at : State → ℕ → ℕ
digit_at s cell = at s.digits cell

unfoldable pub note_at : State → ℕ → ℕ
note_at s cell = at s.notes cell

-- a player's digit is a digit in a cell that is no given
unfoldable pub holds_players_digit : State → ℕ → Bool
holds_players_digit s cell = both (holds_digit s.digits cell) (not (is_given s.given cell))

-- marks are accepted where the cell holds no digit
unfoldable pub accepts_marks : State → ℕ → Bool
accepts_marks s cell = not (holds_digit s.digits cell)

-- the state with other notes
unfoldable pub with_notes : State → List ℕ → State
with_notes s notes = record { given = s.given; digits = s.digits; notes = notes; solved = s.solved }

-- the state with a digit put into a cell, which settles the status; 0 empties the cell, which settles nothing
unfoldable pub put_digit : State → ℕ → ℕ → State
put_digit s cell d =
    let digits = put s.digits cell d in
    record { given = s.given; digits = digits; notes = s.notes; solved = pick (eqb d 0) s.solved (settled digits s.solved) }

-- notes with mark d written at a cell, and with mark d struck there
unfoldable pub write_at : List ℕ → ℕ → ℕ → List ℕ
write_at notes cell d = put notes cell (with_mark (at notes cell) d)

unfoldable pub strike_at : List ℕ → ℕ → ℕ → List ℕ
strike_at notes cell d = put notes cell (without (at notes cell) d)

-- mark d struck from the note of every one of the cells that has it, filled cells too
unfoldable pub strike_all : List ℕ → ℕ → List ℕ → List ℕ
strike_all notes d [] = notes
strike_all notes d (cell ∷ cells) = strike_all (strike_at notes cell d) d cells

-- the mask of the cells whose note has mark d: bit i, of value 2 to the power i, for cell i of the list, from 0 on
unfoldable pub holders : List ℕ → ℕ → List ℕ → ℕ
holders notes d [] = 0
holders notes d (cell ∷ cells) = bit (contains (at notes cell) d) + 2 * holders notes d cells

-- the lowest bit of a mask is set
unfoldable pub lowest : ℕ → Bool
lowest mask = eqb (mask % 2) 1

-- mark d struck from, or written into, the note of those of the cells whose bit is set in the mask
unfoldable pub strike_masked : List ℕ → ℕ → ℕ → List ℕ → List ℕ
strike_masked notes d mask [] = notes
strike_masked notes d mask (cell ∷ cells) = strike_masked (pick (lowest mask) (strike_at notes cell d) notes) d (mask / 2) cells

unfoldable pub write_masked : List ℕ → ℕ → ℕ → List ℕ → List ℕ
write_masked notes d mask [] = notes
write_masked notes d mask (cell ∷ cells) = write_masked (pick (lowest mask) (write_at notes cell d) notes) d (mask / 2) cells

-- f holds at each of the cells whose bit is set in the mask
unfoldable pub every_masked : (ℕ → Bool) → ℕ → List ℕ → Bool
every_masked f mask [] = true
every_masked f mask (cell ∷ cells) = both (either (not (lowest mask)) (f cell)) (every_masked f (mask / 2) cells)

-- a move's target, its kind byte and its digit (0 for erase)
unfoldable pub row_in : Move → ℕ
row_in (Place row column digit) = row
row_in (Erase row column) = row
row_in (WriteMark row column digit) = row
row_in (StrikeMark row column digit) = row

unfoldable pub column_in : Move → ℕ
column_in (Place row column digit) = column
column_in (Erase row column) = column
column_in (WriteMark row column digit) = column
column_in (StrikeMark row column digit) = column

unfoldable pub digit_in : Move → ℕ
digit_in (Place row column digit) = digit
digit_in (Erase row column) = 0
digit_in (WriteMark row column digit) = digit
digit_in (StrikeMark row column digit) = digit

unfoldable pub kind_of : Move → ℕ
kind_of (Place row column digit) = place_kind
kind_of (Erase row column) = erase_kind
kind_of (WriteMark row column digit) = write_kind
kind_of (StrikeMark row column digit) = strike_kind

-- a move performed.
-- Place sets the digit and strikes it from the kept note of every
-- peer that has it, filled peers too; the target's own note stays.
-- Erase empties the cell and touches no note
unfoldable pub perform : State → Move → State
perform s (Place row column digit) =
    let cell = cell_of row column in
    with_notes (put_digit s cell digit) (strike_all s.notes digit (peers_of cell))
perform s (Erase row column) = put_digit s (cell_of row column) 0
perform s (WriteMark row column digit) = with_notes s (write_at s.notes (cell_of row column) digit)
perform s (StrikeMark row column digit) = with_notes s (strike_at s.notes (cell_of row column) digit)

-- what a move displaced: the digit before (0 for none and for marks), and the
-- mask of the peers' marks that it strikes when performed (0 unless place)
unfoldable pub before : State → Move → ℕ
before s (Place row column digit) = digit_at s (cell_of row column)
before s (Erase row column) = digit_at s (cell_of row column)
before s (WriteMark row column digit) = 0
before s (StrikeMark row column digit) = 0

unfoldable pub struck : State → Move → ℕ
struck s (Place row column digit) = holders s.notes digit (peers_of (cell_of row column))
struck s (Erase row column) = 0
struck s (WriteMark row column digit) = 0
struck s (StrikeMark row column digit) = 0

-- a recorded move performed again, as recorded: a place strikes exactly the peers in its mask
unfoldable pub perform_again : State → Move → ℕ → State
perform_again s (Place row column digit) mask =
    let cell = cell_of row column in
    with_notes (put_digit s cell digit) (strike_masked s.notes digit mask (peers_of cell))
perform_again s (Erase row column) mask = perform s (Erase row column)
perform_again s (WriteMark row column digit) mask = perform s (WriteMark row column digit)
perform_again s (StrikeMark row column digit) mask = perform s (StrikeMark row column digit)

-- a recorded move taken back: the digit before, and exactly the marks that were struck or the mark changed
unfoldable pub take_back : State → Move → ℕ → ℕ → State
take_back s (Place row column digit) digitBefore mask =
    let cell = cell_of row column in
    with_notes (put_digit s cell digitBefore) (write_masked s.notes digit mask (peers_of cell))
take_back s (Erase row column) digitBefore mask = put_digit s (cell_of row column) digitBefore
take_back s (WriteMark row column digit) digitBefore mask = with_notes s (strike_at s.notes (cell_of row column) digit)
take_back s (StrikeMark row column digit) digitBefore mask = with_notes s (write_at s.notes (cell_of row column) digit)

-- the digit and the marks that a recorded move changed stand as the move left them
unfoldable pub stands_as_left : State → Move → ℕ → Bool
stands_as_left s (Place row column digit) mask =
    let cell = cell_of row column in
    both (eqb (digit_at s cell) digit) (every_masked (λ peer. not (contains (note_at s peer) digit)) mask (peers_of cell))
stands_as_left s (Erase row column) mask = eqb (digit_at s (cell_of row column)) 0
stands_as_left s (WriteMark row column digit) mask = contains (note_at s (cell_of row column)) digit
stands_as_left s (StrikeMark row column digit) mask = not (contains (note_at s (cell_of row column)) digit)

-- they stand as the move found them
unfoldable pub stands_as_found : State → Move → ℕ → ℕ → Bool
stands_as_found s (Place row column digit) digitBefore mask =
    let cell = cell_of row column in
    both (eqb (digit_at s cell) digitBefore) (every_masked (λ peer. contains (note_at s peer) digit) mask (peers_of cell))
stands_as_found s (Erase row column) digitBefore mask = eqb (digit_at s (cell_of row column)) digitBefore
stands_as_found s (WriteMark row column digit) digitBefore mask = not (contains (note_at s (cell_of row column)) digit)
stands_as_found s (StrikeMark row column digit) digitBefore mask = contains (note_at s (cell_of row column)) digit
