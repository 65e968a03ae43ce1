-- The laws of givens on the grid: which cells they mark, what digits they hold, and how many there are.
-- Givens that ascend and match a solution stand at cells that rise, so no cell has two.
-- Assumes nothing.
use Prim.Native.Nat.{ℕ, zero, suc, ◌+◌, ◌-◌, ◌≤◌, ◌<◌}
use mathlib.Core.Path.{◌≡◌, refl, sym, ap, subst, ◌∙◌}
use mathlib.Core.Bool.{Bool, true, false, not}
use mathlib.Core.List.{List, [], ◌∷◌}
use native.Mathlib.Omega.{arith}
use borrow.Author.Tests.{eqb-true, eqb-false, ne_eqb, ltb-true, not-true}
use lib.Dec.{ltb, eqb}
use lib.ListN.{length, get_or, replicate, get_or-replicate}
use Rattle.sudoku.specs.Tests.{pick, both, either, bit, every, count}
use Rattle.sudoku.specs.Grid.{on_grid, cell_of, is_cell, at, put}
use Rattle.sudoku.proofs.Walks.{by_test, not_both_ways, both_left, both_right, either_cases, either_left, either_first, either_second, either_false, either_false_left, either_false_right, pick_true, pick_false, every_not, every_at, count_every, count_same, Place}
use Rattle.sudoku.proofs.Grid.{cell_from, cell_to, is_cell_lem, at_put_by, length_put, cell_on, cell_of_is_cell, grid_row, grid_column, range_from, range_to}
use Rattle.sudoku.proofs.Each.{Each}
use Rattle.puzzle.specs.declared.Given.{Given}
use Rattle.puzzle.specs.Givens.{precedes, ascend_from, ascending, put_givens, mark_givens, digits_of, given_cells, is_given}
use Rattle.puzzle.specs.Puzzle.{holds_digit, is_full}

-- the cell of a given
abbrev pub cell_in : Given → ℕ
cell_in g = cell_of g.row g.column

abbrev pub OnGrid : Given → Type 0
OnGrid g = on_grid g.row g.column ≡ true

-- a given is the solution's digit
abbrev pub Matches : List ℕ → Given → Type 0
Matches solution g = at solution (cell_in g) ≡ g.digit

-- the cells of the givens rise, from beyond c on
unfoldable pub Rising : ℕ → List Given → Type 0
Rising c [] = Unit
Rising c (g ∷ gs) = (c < cell_in g) × Rising (cell_in g) gs

-- some given stands at a cell, and the digit of the first that does; 0 where none does
unfoldable pub marked : List Given → ℕ → Bool
marked [] cell = false
marked (g ∷ gs) cell = either (eqb (cell_in g) cell) (marked gs cell)

unfoldable pub digit_for : List Given → ℕ → ℕ
digit_for [] cell = 0
digit_for (g ∷ gs) cell = pick (eqb (cell_in g) cell) g.digit (digit_for gs cell)

-- ---- givens that ascend and match a solution rise

module _ (solution : List ℕ) where
  -- two in order stand at cells in order: at one cell they would have two digits, and the solution has one there
  rises : (g h : Given) → OnGrid g → OnGrid h → Matches solution g → Matches solution h → precedes g h ≡ true → cell_in g < cell_in h
  unfolding precedes
  rises g h p q m n t =
      either_cases (ltb g.row h.row) _ t
      (λ r. let l : g.row < h.row = ltb-true _ _ r in
      omega (arith, cell_on _ _ p, cell_on _ _ q, range_to _ (grid_column _ _ p), range_from _ (grid_row _ _ p), range_from _ (grid_column _ _ q)))
      (λ r. same_row (eqb-true _ _ (both_left _ _ r)) (both_right _ _ r))
    where
      same_row : g.row ≡ h.row → either (ltb g.column h.column) (both (eqb g.column h.column) (ltb g.digit h.digit)) ≡ true
          → cell_in g < cell_in h
      same_row e r =
          either_cases (ltb g.column h.column) _ r
          (λ c. let l : g.column < h.column = ltb-true _ _ c in omega (arith, cell_on _ _ p, cell_on _ _ q))
          (λ c.
          let same : g.column ≡ h.column = eqb-true _ _ (both_left _ _ c) in
          let less : g.digit < h.digit = ltb-true _ _ (both_right (eqb g.column h.column) (ltb g.digit h.digit) c) in
          let one : g.digit ≡ h.digit = sym m ∙ (λ i. at solution (cell_of (e i) (same i))) ∙ n in
          absurd (omega arith))

  rising_from : (g : Given) (gs : List Given) → OnGrid g → Matches solution g → Each OnGrid gs → Each (Matches solution) gs → ascend_from g gs ≡ true
      → Rising (cell_in g) gs
  unfolding ascend_from Rising Each
  rising_from g [] p m ps ms t = tt
  rising_from g (h ∷ gs) p m ps ms t = (
    rises g h p ps.0 m ms.0 (both_left _ _ t),
    rising_from h gs ps.0 ms.0 ps.1 ms.1 (both_right (precedes g h) _ t),
  )

  pub rising : (gs : List Given) → Each OnGrid gs → Each (Matches solution) gs → ascending gs ≡ true → Rising 0 gs
  unfolding ascending Rising Each
  rising [] ps ms t = tt
  rising (g ∷ gs) ps ms t =
      (cell_from (cell_in g) (cell_of_is_cell _ _ ps.0), rising_from g gs ps.0 ms.0 ps.1 ms.1 t)

-- ---- which cells are marked

-- nothing is marked at a cell that the givens have passed
pub rising_unmarked : (c : ℕ) (gs : List Given) (cell : ℕ) → Rising c gs → cell ≤ c → marked gs cell ≡ false
unfolding Rising marked
rising_unmarked c [] cell r u = refl
rising_unmarked c (g ∷ gs) cell r u =
    either_false _ _ (ne_eqb (cell_in g) cell (λ e. omega (arith, r.0)))
    (rising_unmarked (cell_in g) gs cell r.1 (omega (arith, r.0)))

length_mark : (flags : List ℕ) (gs : List Given) → length (mark_givens flags gs) ≡ length flags
unfolding mark_givens
length_mark flags [] = refl
length_mark flags (g ∷ gs) = length_mark (put flags (cell_in g) 1) gs ∙ length_put flags (cell_in g) 1

set_or : (t : Bool) (x : ℕ) → not (eqb (pick t 1 x) 0) ≡ either t (not (eqb x 0))
unfolding pick either
set_or true x = refl
set_or false x = refl

flag_set : (flags : List ℕ) (c cell : ℕ) → length flags ≡ 81 → is_cell c ≡ true → is_cell cell ≡ true
    → is_given (put flags c 1) cell ≡ either (eqb c cell) (is_given flags cell)
unfolding is_given
flag_set flags c cell n p q = ap (λ (x : ℕ). not (eqb x 0)) (at_put_by flags c cell 1 n p q) ∙ set_or (eqb c cell) (at flags cell)

either_swap : (a b c : Bool) → either a (either b c) ≡ either (either b a) c
unfolding either
either_swap true true c = refl
either_swap true false c = refl
either_swap false true c = refl
either_swap false false c = refl

marks_at : (flags : List ℕ) (gs : List Given) (cell : ℕ) → length flags ≡ 81 → Each OnGrid gs → is_cell cell ≡ true
    → is_given (mark_givens flags gs) cell ≡ either (marked gs cell) (is_given flags cell)
unfolding mark_givens marked Each either
marks_at flags [] cell n ps q = refl
marks_at flags (g ∷ gs) cell n ps q =
    marks_at (put flags (cell_in g) 1) gs cell (length_put flags (cell_in g) 1 ∙ n) ps.1 q
    ∙ ap (λ (t : Bool). either (marked gs cell) t) (flag_set flags (cell_in g) cell n (cell_of_is_cell _ _ ps.0) q)
    ∙ either_swap (marked gs cell) (eqb (cell_in g) cell) (is_given flags cell)

pub length_given_cells : (gs : List Given) → length (given_cells gs) ≡ 81
unfolding given_cells
length_given_cells gs = length_mark (replicate 81 0) gs

-- a cell is a given's exactly where a given stands there
pub given_at_lem : (gs : List Given) (cell : ℕ) → Each OnGrid gs → is_cell cell ≡ true → is_given (given_cells gs) cell ≡ marked gs cell
unfolding given_cells is_given at
given_at_lem gs cell ps q =
    marks_at (replicate 81 0) gs cell refl ps q
    ∙ ap (λ (t : Bool). either (marked gs cell) t)
    (ap (λ (x : ℕ). not (eqb x 0)) (get_or-replicate 81 (cell - 1) 0 0 (omega (arith, cell_from cell q, cell_to cell q))))
    ∙ either_first (marked gs cell) false refl

-- and no flag is above 1
marks_small : (flags : List ℕ) (gs : List Given) (cell : ℕ) → length flags ≡ 81 → Each OnGrid gs → is_cell cell ≡ true → at flags cell ≤ 1
    → at (mark_givens flags gs) cell ≤ 1
unfolding mark_givens Each
marks_small flags [] cell n ps q h = h
marks_small flags (g ∷ gs) cell n ps q h =
    let w = at_put_by flags (cell_in g) cell 1 n (cell_of_is_cell _ _ ps.0) q in
    marks_small (put flags (cell_in g) 1) gs cell (length_put flags (cell_in g) 1 ∙ n) ps.1 q
    (by_test (eqb (cell_in g) cell) (λ t. omega (arith, w, pick_true (eqb (cell_in g) cell) 1 (at flags cell) t))
    (λ t. omega (arith, w, pick_false (eqb (cell_in g) cell) 1 (at flags cell) t)))

pub flag_small : (gs : List Given) (cell : ℕ) → Each OnGrid gs → is_cell cell ≡ true → at (given_cells gs) cell ≤ 1
unfolding given_cells at
flag_small gs cell ps q =
    let z : get_or (replicate {A = ℕ} 81 0) (cell - 1) 0 ≡ 0 = get_or-replicate {A = ℕ} 81 (cell - 1) 0 0 (omega (arith, cell_from cell q, cell_to cell q)) in
    marks_small (replicate 81 0) gs cell refl ps q (omega (arith, z))

-- ---- what digits stand

length_puts : (digits : List ℕ) (gs : List Given) → length (put_givens digits gs) ≡ length digits
unfolding put_givens
length_puts digits [] = refl
length_puts digits (g ∷ gs) = length_puts (put digits (cell_in g) g.digit) gs ∙ length_put digits (cell_in g) g.digit

pub length_digits_of : (gs : List Given) → length (digits_of gs) ≡ 81
unfolding digits_of
length_digits_of gs = length_puts (replicate 81 0) gs

puts_at : (digits : List ℕ) (c : ℕ) (gs : List Given) (cell : ℕ) → length digits ≡ 81 → Each OnGrid gs → Rising c gs → is_cell cell ≡ true
    → at (put_givens digits gs) cell ≡ pick (marked gs cell) (digit_for gs cell) (at digits cell)
unfolding put_givens marked digit_for Each Rising pick either
puts_at digits c [] cell n ps r q = refl
puts_at digits c (g ∷ gs) cell n ps r q =
    puts_at (put digits (cell_in g) g.digit) (cell_in g) gs cell (length_put digits (cell_in g) g.digit ∙ n) ps.1 r.1 q
    ∙ ap (λ (d : ℕ). pick (marked gs cell) (digit_for gs cell) d)
    (at_put_by digits (cell_in g) cell g.digit n (cell_of_is_cell _ _ ps.0) q)
    ∙ by_test (eqb (cell_in g) cell) here elsewhere
  where
    Same : Type 0
    Same =
        pick (marked gs cell) (digit_for gs cell) (pick (eqb (cell_in g) cell) g.digit (at digits cell))
        ≡ pick (either (eqb (cell_in g) cell) (marked gs cell)) (pick (eqb (cell_in g) cell) g.digit (digit_for gs cell)) (at digits cell)

    here : eqb (cell_in g) cell ≡ true → Same
    here t =
        let none : marked gs cell ≡ false = rising_unmarked (cell_in g) gs cell r.1 (omega (arith, eqb-true (cell_in g) cell t)) in
        rw (t, none)

    elsewhere : eqb (cell_in g) cell ≡ false → Same
    elsewhere t = rw t

unmarked_zero : (gs : List Given) (cell : ℕ) → marked gs cell ≡ false → digit_for gs cell ≡ 0
unfolding marked digit_for
unmarked_zero [] cell h = refl
unmarked_zero (g ∷ gs) cell h =
    pick_false _ _ _ (either_false_left _ _ h) ∙ unmarked_zero gs cell (either_false_right (eqb (cell_in g) cell) _ h)

module _ (gs : List Given) (ps : Each OnGrid gs) (r : Rising 0 gs) where
  -- a cell holds the digit of the given that stands there, and 0 where none does
  pub digit_at_lem : (cell : ℕ) → is_cell cell ≡ true → at (digits_of gs) cell ≡ digit_for gs cell
  unfolding digits_of at
  digit_at_lem cell q =
      puts_at (replicate 81 0) 0 gs cell refl ps r q
      ∙ by_test (marked gs cell) (λ t. pick_true _ _ _ t)
      (λ t.
      pick_false _ _ _ t
      ∙ get_or-replicate 81 (cell - 1) 0 0 (omega (arith, cell_from cell q, cell_to cell q))
      ∙ sym (unmarked_zero gs cell t))

  pub free_digit : (cell : ℕ) → is_cell cell ≡ true → marked gs cell ≡ false → at (digits_of gs) cell ≡ 0
  free_digit cell q t = digit_at_lem cell q ∙ unmarked_zero gs cell t

-- the digit of a cell where a given stands is the solution's
marked_digit : (solution : List ℕ) (gs : List Given) (cell : ℕ) → Each (Matches solution) gs → marked gs cell ≡ true → digit_for gs cell ≡ at solution cell
unfolding marked digit_for Each
marked_digit solution [] cell ms h = absurd (not_both_ways false h refl)
marked_digit solution (g ∷ gs) cell ms h =
    by_test (eqb (cell_in g) cell) (λ t. pick_true _ _ _ t ∙ sym ms.0 ∙ ap (at solution) (eqb-true (cell_in g) cell t))
    (λ t. pick_false _ _ _ t ∙ marked_digit solution gs cell ms.1 (sym (either_second _ _ t) ∙ h))

pub given_digit : (solution : List ℕ) (gs : List Given) → Each OnGrid gs → Rising 0 gs → Each (Matches solution) gs
    → (cell : ℕ) → is_cell cell ≡ true → marked gs cell ≡ true → at (digits_of gs) cell ≡ at solution cell
given_digit solution gs ps r ms cell q t = digit_at_lem gs ps r cell q ∙ marked_digit solution gs cell ms t

-- ---- how many there are

-- a walk of the cells comes to the first given, or passes a cell before it
pub rising_on : (c : ℕ) (g : Given) (gs : List Given) → Rising c (g ∷ gs) → eqb (cell_in g) (suc c) ≡ false → Rising (suc c) (g ∷ gs)
unfolding Rising
rising_on c g gs r t = (omega (arith, r.0, eqb-false (cell_in g) (suc c) t), r.1)

pub rising_rest : (c : ℕ) (g : Given) (gs : List Given) → Rising c (g ∷ gs) → eqb (cell_in g) (suc c) ≡ true → Rising (suc c) gs
unfolding Rising
rising_rest c g gs r t = subst (λ (k : ℕ). Rising k gs) (eqb-true (cell_in g) (suc c) t) r.1

pub marked_here : (g : Given) (gs : List Given) (cell : ℕ) → eqb (cell_in g) cell ≡ true → marked (g ∷ gs) cell ≡ true
unfolding marked
marked_here g gs cell t = either_left _ _ t

pub marked_beyond : (g : Given) (gs : List Given) (cell : ℕ) → cell_in g < cell → marked (g ∷ gs) cell ≡ marked gs cell
unfolding marked
marked_beyond g gs cell u = either_second _ _ (ne_eqb (cell_in g) cell (λ e. omega arith))

pub digit_here : (g : Given) (gs : List Given) (cell : ℕ) → eqb (cell_in g) cell ≡ true → digit_for (g ∷ gs) cell ≡ g.digit
unfolding digit_for
digit_here g gs cell t = pick_true _ _ _ t

pub digit_beyond : (g : Given) (gs : List Given) (cell : ℕ) → cell_in g < cell → digit_for (g ∷ gs) cell ≡ digit_for gs cell
unfolding digit_for
digit_beyond g gs cell u = pick_false _ _ _ (ne_eqb (cell_in g) cell (λ e. omega arith))

counts : (n c : ℕ) (gs : List Given) → suc c + n ≡ 82 → Each OnGrid gs → Rising c gs → count (marked gs) n (suc c) ≡ length gs
unfolding count Each Rising bit
counts zero c [] e ps r = refl
counts zero c (g ∷ gs) e ps r = absurd (omega (arith, r.0, cell_to (cell_in g) (cell_of_is_cell _ _ ps.0)))
counts (suc n) c [] e ps r =
    omega (arith, counts n (suc c) [] (omega arith) tt tt, ap bit (rising_unmarked (suc c) [] (suc c) tt (omega arith)))
counts (suc n) c (g ∷ gs) e ps r =
    by_test (eqb (cell_in g) (suc c))
    (λ t.
    omega (
      arith,
      ap bit (marked_here g gs (suc c) t),
      count_same (marked (g ∷ gs)) (marked gs) n (suc (suc c))
          (λ k l u. marked_beyond g gs k (omega (arith, eqb-true (cell_in g) (suc c) t))),
      counts n (suc c) gs (omega arith) ps.1 (rising_rest c g gs r t),
    ))
    (λ t.
    omega (
      arith,
      ap bit (rising_unmarked (suc c) (g ∷ gs) (suc c) (rising_on c g gs r t) (omega arith)),
      counts n (suc c) (g ∷ gs) (omega arith) ps (rising_on c g gs r t),
    ))

module _ (gs : List Given) (ps : Each OnGrid gs) (r : Rising 0 gs) where
  -- no two stand at one cell, so as many cells are marked as there are givens
  pub marked_count : count (marked gs) 81 1 ≡ length gs
  marked_count = counts 81 0 gs refl ps r

  pub given_count : count (is_given (given_cells gs)) 81 1 ≡ length gs
  given_count =
      count_same (is_given (given_cells gs)) (marked gs) 81 1
      (λ k l u. given_at_lem gs k ps (is_cell_lem k l (omega arith)))
      ∙ marked_count

  -- with fewer than 81 of them some cell is free
  pub free_cell : length gs < 81 → Place (marked gs) false 81 1
  free_cell u =
      by_test (every (marked gs) 81 1) (λ t. absurd (omega (arith, count_every (marked gs) 81 1 t, marked_count)))
      (λ t. every_not (marked gs) 81 1 t)

  -- and so the fresh board is not full
  pub fresh_not_full : length gs < 81 → is_full (digits_of gs) ≡ false
  unfolding is_full holds_digit
  fresh_not_full u = open_at (free_cell u)
    where
      open_at : Place (marked gs) false 81 1 → every (holds_digit (digits_of gs)) 81 1 ≡ false
      open_at w =
          by_test (every (holds_digit (digits_of gs)) 81 1)
          (λ t.
          absurd
          (eqb-false (at (digits_of gs) w.at) 0
          (not-true _ (every_at (holds_digit (digits_of gs)) 81 1 w.at t w.from w.below))
          (free_digit gs ps r w.at (is_cell_lem w.at w.from (omega (arith, w.below))) w.is)))
          (λ t. t)
