-- The cells of a text, as far as they are read.
-- Assumes nothing.
use Rattle.std.proofs.Common.{◌≡◌, ℕ, zero, suc, ◌+◌, ◌-◌, ◌<◌, ◌≤◌, true, false, List, length, get_or, refl, sym, ap, ◌∙◌, Ok, Err, arith}
use borrow.Author.Tests.{ne_eqb, lt-ltb, le-ltb, lt-leb, le-leb}
use Rattle.sudoku.specs.Tests.{pick, run}
use Rattle.sudoku.proofs.Walks.{pick_false, run_more, run_all}
use Rattle.puzzle.specs.Text.{cell_value}
use Rattle.texts.specs.declared.CellsError.TheVariants.{Wrong, Many, Few}
use Rattle.texts.specs.Grids.{Cells, is_space, so_far, no_cells, with_cell, with_character, cells_of, judged}

abbrev pub step : List ℕ → Cells → ℕ → Cells
step text s i = with_character s (i + 1) (get_or text i 0)

-- the text from a place on leads from what is found so far to what the whole text leads to
abbrev pub Leads : List ℕ → List ℕ → ℕ → ℕ → Type 0
Leads text cells count i = run (step text) no_cells (length text) 0 ≡ run (step text) (so_far cells count) (length text - i) i

-- nothing after a wrong character counts
stays : (text : List ℕ) (s : Cells) (i : ℕ) → (s.wrong ≡ 0 → ⊥) → step text s i ≡ s
unfolding with_character
stays text s i h = pick_false _ _ _ (ne_eqb s.wrong 0 h)

run_wrong : (text : List ℕ) (s : Cells) (n i : ℕ) → (s.wrong ≡ 0 → ⊥) → run (step text) s n i ≡ s
unfolding run
run_wrong text s zero i h = refl
run_wrong text s (suc n) i h = ap (λ (t : Cells). run (step text) t n (suc i)) (stays text s i h) ∙ run_wrong text s n (suc i) h

module _ (text cells : List ℕ) (count i : ℕ) (leads : Leads text cells count i) where
  module _ (below : i < length text) where
    next : (s : Cells) → step text (so_far cells count) i ≡ s → run (step text) no_cells (length text) 0 ≡ run (step text) s (length text - (i + 1)) (i + 1)
    next s e =
        leads
        ∙ run_more (step text) (so_far cells count) (length text) i below
        ∙ ap (λ (t : Cells). run (step text) t (length text - (i + 1)) (i + 1)) e

    pub by_space : is_space (get_or text i 0) ≡ true → Leads text cells count (i + 1)
    unfolding with_character pick
    by_space e = next (so_far cells count) (simp e)

    pub by_cell : is_space (get_or text i 0) ≡ false → (value : ℕ) → value ≡ cell_value (get_or text i 0) → value ≤ 9 → (after : List ℕ) (m : ℕ) → so_far after m ≡ with_cell (so_far cells count) value → Leads text after m (i + 1)
    unfolding with_character pick
    by_cell e value v h after m w = next (so_far after m) (simp (e, sym v, le-leb _ _ h) (sym w))

    pub by_wrong : is_space (get_or text i 0) ≡ false → (value : ℕ) → value ≡ cell_value (get_or text i 0) → 9 < value → cells_of text ≡ record { cells = cells; count = count; wrong = i + 1 }
    unfolding with_character cells_of pick
    by_wrong e value v h =
        let s : Cells = record { cells = cells; count = count; wrong = i + 1 } in
        next s (simp (e, sym v, lt-leb _ _ h)) ∙ run_wrong text s (length text - (i + 1)) (i + 1) (λ z. omega arith)

  module _ (end : length text ≤ i) where
    by_all : cells_of text ≡ so_far cells count
    unfolding cells_of
    by_all = leads ∙ run_all (step text) (so_far cells count) (length text) i end

    pub are_cells : cells ≡ (cells_of text).cells
    are_cells = sym (ap (λ (s : Cells). s.cells) by_all)

    pub is_few : count < 81 → Err (Few count) ≡ judged (cells_of text)
    unfolding judged pick
    is_few h = sym (ap judged by_all ∙ simp (lt-ltb _ _ h))

    pub is_all : count ≡ 81 → Ok cells ≡ judged (cells_of text)
    unfolding judged pick
    is_all h = sym (ap judged by_all ∙ simp h)

    pub is_many : 81 < count → Err Many ≡ judged (cells_of text)
    unfolding judged pick
    is_many h = sym (ap judged by_all ∙ simp (le-ltb count 81 (omega arith), ne_eqb count 81 (λ z. omega arith)))

-- what was found with a wrong character, judged
pub is_wrong : (found : Cells) (cells : List ℕ) (count i : ℕ) → found ≡ record { cells = cells; count = count; wrong = i + 1 } → Err (Wrong (i + 1) count) ≡ judged found
unfolding judged
is_wrong found cells count i e = sym (ap judged e ∙ pick_false _ _ _ (ne_eqb (i + 1) 0 (λ z. omega arith)))
