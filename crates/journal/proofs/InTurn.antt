-- Marks changed cell by cell, each asked before it is changed: where no
-- cell stands twice, asked is what stood before anything was changed.
-- Assumes nothing.
use Prim.Native.Nat.{ℕ, suc, ◌/◌, ◌<◌}
use mathlib.Core.Path.{◌≡◌, refl, ◌∙◌}
use mathlib.Core.Bool.{Bool, true, not}
use mathlib.Core.List.{List, [], ◌∷◌}
use native.Mathlib.Omega.{arith}
use lib.ListN.{length, get_or}
use Rattle.sudoku.specs.Tests.{pick, both, either}
use Rattle.sudoku.specs.Grid.{in_range, is_cell, at, peers_of}
use Rattle.sudoku.proofs.Grid.{at_put_other, is_cell_lem}
use Rattle.note.specs.Note.{contains}
use Rattle.journal.specs.State.{lowest, write_at, strike_at, every_masked}
use Rattle.journal.specs.Code.InTurn.{in_turn, lacks, not_missing, lack_in_turn, none_missing_in_turn}
use Rattle.journal.specs.Code.Marks.{MarkLaws, write_laws, strike_laws}
use Rattle.journal.proofs.NoteCells.{Within, Apart, pick_either}
use Rattle.journal.proofs.PeerCells.{peers_within, peers_distinct}

-- two lists of notes have the same at each of the cells
abbrev Same : List ℕ → List ℕ → List ℕ → Type 0
Same l m cells = (i : ℕ) → i < length cells → at l (get_or cells i 0) ≡ at m (get_or cells i 0)

-- each of them is a cell
one_of : (cells : List ℕ) → Within 81 cells → (i : ℕ) → i < length cells → is_cell (get_or cells i 0) ≡ true
one_of cells g i h = is_cell_lem (get_or cells i 0) (g i h).0 (g i h).1

-- a change at one cell of the grid leaves the others
abbrev Leaves : (List ℕ → ℕ → List ℕ) → Type 0
Leaves change = (l : List ℕ) (c n : ℕ) → is_cell c ≡ true → is_cell n ≡ true → (c ≡ n → ⊥) → at (change l c) n ≡ at l n

module _ (change : List ℕ → ℕ → List ℕ) (leaves : Leaves change) (test : ℕ → Bool) (start : List ℕ) where
  -- what stood at the cells that are left still stands there after a turn
  same_rest : (notes : List ℕ) (t : Bool) (cell : ℕ) (cells : List ℕ) → Apart (cell ∷ cells) → Within 81 (cell ∷ cells) → Same notes start (cell ∷ cells)
      → Same (pick t (change notes cell) notes) start cells
  same_rest notes t cell cells a g s i h =
      pick_either (λ (l : List ℕ). at l (get_or cells i 0) ≡ at start (get_or cells i 0)) t (change notes cell) notes
      (leaves notes cell (get_or cells i 0) (one_of (cell ∷ cells) g 0 (omega arith)) (one_of (cell ∷ cells) g (suc i) (omega arith)) (a 0 (suc i) (omega arith) (omega arith) (omega arith))
      ∙ s (suc i) (omega arith))
      (s (suc i) (omega arith))

  in_turn_every : (notes : List ℕ) (mask : ℕ) (cells : List ℕ) → Apart cells → Within 81 cells → Same notes start cells
      → in_turn change test notes mask cells ≡ every_masked (λ cell. test (at start cell)) mask cells
  unfolding in_turn every_masked
  in_turn_every notes mask [] a g s = refl
  in_turn_every notes mask (cell ∷ cells) a g s =
      λ j. both (either (not (lowest mask)) (test (s 0 (omega arith) j)))
      (in_turn_every (pick (lowest mask) (change notes cell) notes) (mask / 2) cells
      (λ i k u v d. a (suc i) (suc k) (omega arith) (omega arith) (omega arith)) (λ i h. g (suc i) (omega arith))
      (same_rest notes (lowest mask) cell cells a g s) j)

  in_turn_peers : (cell mask : ℕ) → is_cell cell ≡ true → in_turn change test start mask (peers_of cell) ≡ every_masked (λ c. test (at start c)) mask (peers_of cell)
  in_turn_peers cell mask p =
      in_turn_every start mask (peers_of cell) (peers_distinct cell p) (peers_within cell p) (λ i h. refl)

-- ---- the two walks over the peers of a cell

change_leaves : {after : ℕ → ℕ → ℕ} {fits : ℕ → ℕ → Bool} {at_cell : List ℕ → ℕ → ℕ → List ℕ} {masked : List ℕ → ℕ → ℕ → List ℕ → List ℕ} {fits_each : List ℕ → ℕ → ℕ → List ℕ → Bool}
    → MarkLaws after fits at_cell masked fits_each → (d : ℕ) → Leaves (λ l c. at_cell l c d)
change_leaves laws d l c n p q h = rw (laws.cell l c d) (at_put_other l c n _ p q h)

module _ (notes : List ℕ) (d mask cell : ℕ) (p : is_cell cell ≡ true) where
  pub lack_peers : lack_in_turn notes d mask (peers_of cell) ≡ every_masked (λ peer. not (contains (at notes peer) d)) mask (peers_of cell)
  unfolding lack_in_turn lacks
  lack_peers = in_turn_peers (λ l c. write_at l c d) (change_leaves write_laws d) (lacks d) notes cell mask p

  pub have_peers : in_range d ≡ true → none_missing_in_turn notes d mask (peers_of cell) ≡ every_masked (λ peer. contains (at notes peer) d) mask (peers_of cell)
  unfolding none_missing_in_turn not_missing either
  have_peers r = rw r at (in_turn_peers (λ l c. strike_at l c d) (change_leaves strike_laws d) (not_missing d) notes cell mask p)
