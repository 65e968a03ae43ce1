-- Marks changed cell by cell, each asked before it is changed, as the loops of undo and redo go.
-- Of the peers of a cell, none of which stands twice, and of a digit this asks what
-- `every_masked` of specs/State asks before anything is changed (proofs/InTurn).
-- Assumes nothing.
use Rattle.std.specs.Prelude.{ℕ, ◌/◌, Bool, true, not, List, [], ◌∷◌}
use Rattle.sudoku.specs.Tests.{pick, both, either}
use Rattle.sudoku.specs.Grid.{in_range, at}
use Rattle.note.specs.Note.{contains}
use Rattle.journal.specs.State.{lowest, write_at, strike_at}

-- each of the cells whose bit is set in the mask has its note tested when its turn comes, and is then changed
unfoldable pub in_turn : (List ℕ → ℕ → List ℕ) → (ℕ → Bool) → List ℕ → ℕ → List ℕ → Bool
in_turn change test notes mask [] = true
in_turn change test notes mask (cell ∷ cells) =
    both (either (not (lowest mask)) (test (at notes cell))) (in_turn change test (pick (lowest mask) (change notes cell) notes) (mask / 2) cells)

-- mark d is not written
unfoldable pub lacks : ℕ → ℕ → Bool
lacks d note = not (contains note d)

-- mark d is not missing: it is written, or d is no digit and no mark at all
unfoldable pub not_missing : ℕ → ℕ → Bool
not_missing d note = either (not (in_range d)) (contains note d)

-- writing mark d finds it lacking at each cell of the mask
unfoldable pub lack_in_turn : List ℕ → ℕ → ℕ → List ℕ → Bool
lack_in_turn notes d mask cells = in_turn (λ l cell. write_at l cell d) (lacks d) notes mask cells

-- striking mark d finds it missing at no cell of the mask
unfoldable pub none_missing_in_turn : List ℕ → ℕ → ℕ → List ℕ → Bool
none_missing_in_turn notes d mask cells = in_turn (λ l cell. strike_at l cell d) (not_missing d) notes mask cells
