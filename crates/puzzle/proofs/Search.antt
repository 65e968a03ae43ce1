-- The laws of walking over a list of cells: what is left of `is_held` and `first_holding` from an index on.
-- Assumes nothing.
use Prim.Native.Nat.{ℕ, ◌+◌, ◌<◌, ◌≤◌}
use mathlib.Core.Path.{◌≡◌, refl, sym, ap, ◌∙◌}
use mathlib.Core.Bool.{true, false}
use mathlib.Core.List.{List, [], ◌∷◌}
use native.Mathlib.Numerals.{add-one}
use borrow.Author.Tests.{eq-eqb, ne_eqb}
use lib.Dec.{eqb}
use lib.ListN.{length, get_or, drop, drop_of_length-le}
use lib.Seq.{drop-cons}
use Rattle.std.specs.List.{list_any}
use Rattle.sudoku.specs.Tests.{either}
use Rattle.sudoku.specs.Grid.{at}
use Rattle.sudoku.proofs.Walks.{or_either, pick_true, pick_false}
use Rattle.puzzle.specs.Puzzle.{is_held}
use Rattle.puzzle.specs.Vouch.{first_holding}

-- the library's `any` over the cells
pub held_any : (digits : List ℕ) (d : ℕ) (cells : List ℕ) → list_any (λ (cell : ℕ). eqb (at digits cell) d) cells ≡ is_held digits d cells
unfolding is_held
held_any digits d [] = refl
held_any digits d (cell ∷ cells) =
    or_either (eqb (at digits cell) d) (list_any (λ (c : ℕ). eqb (at digits c) d) cells) ∙ ap (either (eqb (at digits cell) d)) (held_any digits d cells)

-- the list of cells from an index on
module _ (digits : List ℕ) (d : ℕ) (cells : List ℕ) (i : ℕ) where
  -- the next cell, and those after it
  next : i < length cells → drop i cells ≡ get_or cells i 0 ∷ drop (i + 1) cells
  next h = drop-cons cells i 0 h ∙ ap (λ (k : ℕ). get_or cells i 0 ∷ drop k cells) (sym (add-one i))

  module _ (h : i < length cells) where
    pub holding_here : at digits (get_or cells i 0) ≡ d → first_holding digits d (drop i cells) ≡ get_or cells i 0
    unfolding first_holding
    holding_here e = rw (next h, eq-eqb (at digits (get_or cells i 0)) d e) (pick_true true _ _ refl)

    pub holding_later : (at digits (get_or cells i 0) ≡ d → ⊥) → first_holding digits d (drop i cells) ≡ first_holding digits d (drop (i + 1) cells)
    unfolding first_holding
    holding_later n = rw (next h, ne_eqb (at digits (get_or cells i 0)) d n) (pick_false false _ _ refl)

  pub holding_nowhere : length cells ≤ i → first_holding digits d (drop i cells) ≡ 0
  unfolding first_holding
  holding_nowhere h = rw (drop_of_length-le cells h)
