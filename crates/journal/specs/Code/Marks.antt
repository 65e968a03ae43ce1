-- The two changes of a mark, which is written or struck: what a change makes of notes, what it must find
-- in them, and the laws that its walks over cells keep, by which the loops of both are one.
-- Assumes nothing.
use Rattle.std.specs.Prelude.{◌≡◌, ℕ, ◌/◌, Bool, List, [], ◌∷◌, refl}
use Rattle.sudoku.specs.Tests.{pick}
use Rattle.sudoku.specs.Grid.{at, put}
use Rattle.note.specs.Note.{with_mark, without}
use Rattle.journal.specs.State.{lowest, write_at, strike_at, write_masked, strike_masked}
use Rattle.journal.specs.Code.InTurn.{in_turn, lacks, not_missing, lack_in_turn, none_missing_in_turn}

-- of a change: a note after it, the test that a note must pass before, and both at a cell and at the cells of a mask
pub record MarkLaws
    (after : ℕ → ℕ → ℕ) (fits : ℕ → ℕ → Bool) (at_cell : List ℕ → ℕ → ℕ → List ℕ)
    (masked : List ℕ → ℕ → ℕ → List ℕ → List ℕ) (fits_each : List ℕ → ℕ → ℕ → List ℕ → Bool) : Type 0 where
  pub cell : (notes : List ℕ) (cell d : ℕ) → at_cell notes cell d ≡ put notes cell (after (at notes cell) d)
  pub none : (notes : List ℕ) (d mask : ℕ) → masked notes d mask [] ≡ notes
  pub more : (notes : List ℕ) (d mask cell : ℕ) (cells : List ℕ)
      → masked notes d mask (cell ∷ cells) ≡ masked (pick (lowest mask) (at_cell notes cell d) notes) d (mask / 2) cells
  pub each : (notes : List ℕ) (d mask : ℕ) (cells : List ℕ)
      → fits_each notes d mask cells ≡ in_turn (λ l cell. at_cell l cell d) (fits d) notes mask cells

pub write_laws : MarkLaws with_mark lacks write_at write_masked lack_in_turn
unfolding write_at write_masked lack_in_turn
write_laws = record {
  cell = λ notes cell d. refl;
  none = λ notes d mask. refl;
  more = λ notes d mask cell cells. refl;
  each = λ notes d mask cells. refl;
}

pub strike_laws : MarkLaws without not_missing strike_at strike_masked none_missing_in_turn
unfolding strike_at strike_masked none_missing_in_turn
strike_laws = record {
  cell = λ notes cell d. refl;
  none = λ notes d mask. refl;
  more = λ notes d mask cell cells. refl;
  each = λ notes d mask cells. refl;
}
