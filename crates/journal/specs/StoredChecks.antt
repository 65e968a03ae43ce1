-- Stored checks of document 01 (check.rs): check n is the nth six bytes of
-- the check memory. The layout is read and written here and nowhere else.
-- Assumes nothing.
use Rattle.std.specs.Prelude.{ℕ, ◌+◌, ◌-◌, ◌*◌, Bool, List, [], ◌∷◌, ◌++◌, leb, eqb, get_or}
use Rattle.sudoku.specs.Tests.{both, bit}
use Rattle.sudoku.specs.Grid.{in_range, cell_of, at}
use Rattle.journal.specs.declared.Asked.{Asked}
use Rattle.journal.specs.Limits.{max_moves, check_bytes}
use Rattle.journal.specs.Bytes.{low, second, two}
use Rattle.journal.specs.Slots.{is_free}

-- a check as it is stored: what was asked, and the verdict, whether the digit is the solution's
pub record Stored : Type 0 where
  pub standing : ℕ
  pub row : ℕ
  pub column : ℕ
  pub digit : ℕ
  pub right : Bool

abbrev pub stored : Asked → Bool → Stored
stored c right = record { standing = c.standing; row = c.row; column = c.column; digit = c.digit; right = right }

-- the verdict on a digit at a cell
unfoldable pub is_right : List ℕ → ℕ → ℕ → Bool
is_right solution cell digit = eqb (at solution cell) digit

-- a check with its verdict
abbrev pub judged : List ℕ → Asked → Stored
judged solution c = stored c (is_right solution (cell_of c.row c.column) c.digit)

-- the check of a digit at a position, asked while `standing` moves stand
abbrev pub judge : List ℕ → ℕ → ℕ → ℕ → ℕ → Stored
judge solution standing row column digit = judged solution (record { standing = standing; row = row; column = column; digit = digit })

-- its six bytes: standing (two, low first), row, column, digit,
-- verdict (1 when the digit equals the solution's, else 0)
unfoldable pub stored_bytes : Stored → List ℕ
stored_bytes c = low c.standing ∷ second c.standing ∷ c.row ∷ c.column ∷ c.digit ∷ bit c.right ∷ []

-- stored checks, one after the other
unfoldable pub stored_all : List Stored → List ℕ
stored_all [] = []
stored_all (c ∷ cs) = stored_bytes c ++ stored_all cs

-- where check n starts in the check memory, n from 1
unfoldable pub check_start : ℕ → ℕ
check_start n = check_bytes * (n - 1)

unfoldable pub verdict_byte : List ℕ → ℕ → ℕ
verdict_byte checks n = get_or checks (check_start n + 5) 0

-- check n, read: what was asked, and the whole of it
abbrev pub asked_at : List ℕ → ℕ → Asked
asked_at checks n =
    let start = check_start n in
    record {
      standing = two (get_or checks start 0) (get_or checks (start + 1) 0);
      row = get_or checks (start + 2) 0;
      column = get_or checks (start + 3) 0;
      digit = get_or checks (start + 4) 0;
    }

unfoldable pub stored_at : List ℕ → ℕ → Stored
stored_at checks n = stored (asked_at checks n) (eqb (verdict_byte checks n) 1)

-- a stored check is sound when standing is 1 to 1,024, the digit 1 to 9,
-- the verdict 0 or 1, and row and column are on the grid and no given's
unfoldable pub sound_stored : List ℕ → Asked → ℕ → Bool
sound_stored given c verdict =
    both (is_free given c.row c.column)
    (both (both (leb 1 c.standing) (leb c.standing max_moves)) (both (in_range c.digit) (leb verdict 1)))

unfoldable pub is_sound_check : List ℕ → List ℕ → ℕ → Bool
is_sound_check given checks n = sound_stored given (asked_at checks n) (verdict_byte checks n)
