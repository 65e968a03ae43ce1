-- The givens of the cells at which a test holds, `givens_by`: they stand on the grid, their cells rise, so they ascend;
-- they mark exactly these cells and hold their digits; and a walk that lays their bytes, one after the other.
-- Assumes nothing.
use Prim.Native.Nat.{ℕ, zero, suc, ◌+◌, ◌-◌, ◌*◌, ◌%◌, ◌≤◌, ◌<◌}
use mathlib.Core.Path.{◌≡◌, refl, sym, ap, subst, ◌∙◌}
use mathlib.Core.Bool.{Bool, true, false}
use mathlib.Core.List.{List, [], ◌∷◌, ◌++◌}
use native.Mathlib.Nat.{sub-eq-zero_of_le}
use native.Mathlib.Numerals.{add-one}
use native.Mathlib.Omega.{arith}
use borrow.Author.Tests.{eqb-true, eqb-false, eq-eqb, lt-ltb, ltb-false}
use lib.Dec.{ltb, eqb}
use lib.ListN.{length}
use Rattle.sudoku.specs.Tests.{pick, both, either, keep, bit, count}
use Rattle.sudoku.specs.Grid.{row_of, column_of}
use Rattle.sudoku.proofs.Walks.{by_test, keep_length, keep_true, keep_false, left_one, both_true, both_second, both_false_right, count_le, either_left, either_right, either_first, either_second, pick_true, pick_false}
use Rattle.sudoku.proofs.Grid.{is_cell_lem, cell_on, cell_on_grid, cell_of_row_column, range_from, range_to, grid_row, grid_column}
use Rattle.sudoku.proofs.Each.{Each}
use Rattle.puzzle.specs.declared.Given.{Given}
use Rattle.puzzle.specs.Givens.{given, triples, triple_bytes, precedes, ascend_from, ascending, givens_by}
use Rattle.puzzle.proofs.Givens.{cell_in, OnGrid, Rising, marked, digit_for, rising_unmarked}

-- ---- cells that rise ascend

-- of two givens that which stands at the earlier cell stands before
precedes_by_cell : (g h : Given) → OnGrid g → OnGrid h → cell_in g < cell_in h → precedes g h ≡ true
unfolding precedes
precedes_by_cell g h p q l =
    by_test (ltb g.row h.row) (λ t. either_left _ _ t)
    (λ t.
    let under : h.row ≤ g.row = ltb-false g.row h.row t in
    let same : g.row ≡ h.row = omega (arith, cell_on _ _ p, cell_on _ _ q, range_to _ (grid_column _ _ q), range_from _ (grid_column _ _ p), range_from _ (grid_row _ _ q)) in
    let less : g.column < h.column = omega (arith, cell_on _ _ p, cell_on _ _ q) in
    either_right (ltb g.row h.row) _ (both_true _ _ (eq-eqb _ _ same) (either_left _ _ (lt-ltb _ _ less))))

ascends_from : (g : Given) (gs : List Given) → OnGrid g → Each OnGrid gs → Rising (cell_in g) gs → ascend_from g gs ≡ true
unfolding ascend_from Rising Each
ascends_from g [] p ps r = refl
ascends_from g (h ∷ gs) p ps r = both_true _ _ (precedes_by_cell g h p ps.0 r.0) (ascends_from h gs ps.0 ps.1 r.1)

pub rising_ascends : (c : ℕ) (gs : List Given) → Each OnGrid gs → Rising c gs → ascending gs ≡ true
unfolding ascending Rising Each
rising_ascends c [] ps r = refl
rising_ascends c (g ∷ gs) ps r = ascends_from g gs ps.0 ps.1 r.1

-- ---- one given in front, where a test holds

each_keep : (P : Given → Type 0) (t : Bool) (g : Given) (gs : List Given) → P g → Each P gs → Each P (keep t g gs)
unfolding keep Each
each_keep P true g gs p ps = (p, ps)
each_keep P false g gs p ps = ps

rising_below : (c e : ℕ) (gs : List Given) → c ≤ e → Rising e gs → Rising c gs
unfolding Rising
rising_below c e [] l r = tt
rising_below c e (g ∷ gs) l r = (omega (arith, r.0), r.1)

rising_keep : (c : ℕ) (t : Bool) (g : Given) (gs : List Given) → cell_in g ≡ suc c → Rising (suc c) gs → Rising c (keep t g gs)
unfolding keep Rising
rising_keep c true g gs e r = (omega arith, subst (λ (k : ℕ). Rising k gs) (sym e) r)
rising_keep c false g gs e r = rising_below c (suc c) gs (omega arith) r

marked_keep : (b : Bool) (g : Given) (gs : List Given) (cell : ℕ) → marked (keep b g gs) cell ≡ either (both b (eqb (cell_in g) cell)) (marked gs cell)
unfolding keep marked both either
marked_keep true g gs cell = refl
marked_keep false g gs cell = refl

digit_keep : (b : Bool) (g : Given) (gs : List Given) (cell : ℕ) → digit_for (keep b g gs) cell ≡ pick (both b (eqb (cell_in g) cell)) g.digit (digit_for gs cell)
unfolding keep digit_for both pick
digit_keep true g gs cell = refl
digit_keep false g gs cell = refl

-- where the given stands at the cell behind c and the others beyond it, a later cell is decided there or by the others
module _ (b : Bool) (g : Given) (gs : List Given) (c cell : ℕ) (e : cell_in g ≡ suc c) (r : Rising (suc c) gs) (l : c < cell) where
  marked_step : (is : Bool) → (suc c ≡ cell → b ≡ is) → (suc c < cell → marked gs cell ≡ is) → marked (keep b g gs) cell ≡ is
  marked_step is here beyond =
      marked_keep b g gs cell
      ∙ by_test (eqb (cell_in g) cell)
      (λ q.
      let same : suc c ≡ cell = sym e ∙ eqb-true (cell_in g) cell q in
      either_first _ _ (rising_unmarked (suc c) gs cell r (omega arith)) ∙ both_second _ _ q ∙ here same)
      (λ q. either_second _ _ (both_false_right _ _ q) ∙ beyond (omega (arith, eqb-false (cell_in g) cell q)))

  digit_step : (is : ℕ) → (suc c ≡ cell → (b ≡ true) × (g.digit ≡ is)) → (suc c < cell → digit_for gs cell ≡ is) → digit_for (keep b g gs) cell ≡ is
  digit_step is here beyond =
      digit_keep b g gs cell
      ∙ by_test (eqb (cell_in g) cell)
      (λ q.
      let there = here (sym e ∙ eqb-true (cell_in g) cell q) in
      pick_true _ _ _ (both_true _ _ there.0 q) ∙ there.1)
      (λ q. pick_false _ _ _ (both_false_right _ _ q) ∙ beyond (omega (arith, eqb-false (cell_in g) cell q)))

-- ---- the givens of a test

module _ (t : ℕ → Bool) (d : ℕ → ℕ) where
  -- of cell c alone
  abbrev one : ℕ → Given
  one c = given (row_of c) (column_of c) (d c)

  one_at : (c : ℕ) → c < 81 → cell_in (one (suc c)) ≡ suc c
  one_at c h = cell_of_row_column (suc c) (is_cell_lem (suc c) (omega arith) (omega arith))

  pub by_grid : (n c : ℕ) → c + n ≤ 81 → Each OnGrid (givens_by t d n (suc c))
  unfolding givens_by Each
  by_grid zero c h = tt
  by_grid (suc n) c h =
      each_keep OnGrid (t (suc c)) (one (suc c)) _ (cell_on_grid (suc c) (is_cell_lem (suc c) (omega arith) (omega arith)))
      (by_grid n (suc c) (omega arith))

  pub by_rising : (n c : ℕ) → c + n ≤ 81 → Rising c (givens_by t d n (suc c))
  unfolding givens_by Rising
  by_rising zero c h = tt
  by_rising (suc n) c h =
      rising_keep c (t (suc c)) (one (suc c)) _ (one_at c (omega arith))
      (by_rising n (suc c) (omega arith))

  pub by_ascends : (n c : ℕ) → c + n ≤ 81 → ascending (givens_by t d n (suc c)) ≡ true
  by_ascends n c h = rising_ascends c _ (by_grid n c h) (by_rising n c h)

  -- a cell is marked exactly where the test holds, and the given there has its digit
  pub by_marked : (n c cell : ℕ) → c + n ≤ 81 → c < cell → cell ≤ c + n → marked (givens_by t d n (suc c)) cell ≡ t cell
  unfolding givens_by
  by_marked zero c cell h l u = absurd (omega arith)
  by_marked (suc n) c cell h l u =
      marked_step (t (suc c)) (one (suc c)) (givens_by t d n (suc (suc c))) c cell (one_at c (omega arith))
      (by_rising n (suc c) (omega arith)) l (t cell) (λ e. ap t e) (λ q. by_marked n (suc c) cell (omega arith) q (omega arith))

  pub by_digit : (n c cell : ℕ) → c + n ≤ 81 → c < cell → cell ≤ c + n → t cell ≡ true → digit_for (givens_by t d n (suc c)) cell ≡ d cell
  unfolding givens_by
  by_digit zero c cell h l u p = absurd (omega arith)
  by_digit (suc n) c cell h l u p =
      digit_step (t (suc c)) (one (suc c)) (givens_by t d n (suc (suc c))) c cell (one_at c (omega arith))
      (by_rising n (suc c) (omega arith)) l (d cell) (λ e. (ap t e ∙ p, ap d e)) (λ q. by_digit n (suc c) cell (omega arith) q (omega arith) p)

  pub by_length : (n cell : ℕ) → length (givens_by t d n cell) ≡ count t n cell
  unfolding givens_by count
  by_length zero cell = refl
  by_length (suc n) cell = keep_length (t cell) (one cell) _ ∙ ap (λ (k : ℕ). bit (t cell) + k) (by_length n (suc cell))

-- two tests that agree at each cell, with digits that agree where they hold
same_keep : (b o : Bool) (row column x y : ℕ) (gs hs : List Given) → b ≡ o → (b ≡ true → x ≡ y) → gs ≡ hs
    → keep b (given row column x) gs ≡ keep o (given row column y) hs
same_keep b o row column x y gs hs e h rest =
    by_test b
    (λ p. keep_true _ _ _ p ∙ (λ i. given row column (h p i) ∷ rest i) ∙ sym (keep_true _ _ _ (sym e ∙ p)))
    (λ p. keep_false _ _ _ p ∙ rest ∙ sym (keep_false _ _ _ (sym e ∙ p)))

pub by_same : (t u : ℕ → Bool) (d e : ℕ → ℕ) (n cell : ℕ)
    → ((k : ℕ) → cell ≤ k → k < cell + n → t k ≡ u k)
    → ((k : ℕ) → cell ≤ k → k < cell + n → t k ≡ true → d k ≡ e k)
    → givens_by t d n cell ≡ givens_by u e n cell
unfolding givens_by
by_same t u d e zero cell s h = refl
by_same t u d e (suc n) cell s h =
    same_keep (t cell) (u cell) _ _ (d cell) (e cell) _ _ (s cell (omega arith) (omega arith)) (h cell (omega arith) (omega arith))
    (by_same t u d e n (suc cell) (λ k a b. s k (omega arith) (omega arith)) (λ k a b q. h k (omega arith) (omega arith) q))

-- ---- their bytes, laid one given after the other

-- what is left to lay from a cell on; `bytes` are those of a list of givens
abbrev pub bytes_left : (List Given → List ℕ) → (ℕ → Bool) → (ℕ → ℕ) → ℕ → List ℕ
bytes_left bytes t d cell = bytes (givens_by t d (82 - cell) cell)

-- the bytes of the first given stand before those of the others
module _ (bytes : List Given → List ℕ) (part : Given → List ℕ) (none : bytes [] ≡ []) (more : (g : Given) (gs : List Given) → bytes (g ∷ gs) ≡ part g ++ bytes gs) (t : ℕ → Bool) (d : ℕ → ℕ) where
  kept : (b : Bool) (g : Given) (gs : List Given) → bytes (keep b g gs) ≡ pick b (part g) [] ++ bytes gs
  unfolding keep pick
  kept true g gs = more g gs
  kept false g gs = refl

  pub bytes_turn : (cell : ℕ) → cell < 82
      → bytes_left bytes t d cell ≡ pick (t cell) (part (given (row_of cell) (column_of cell) (d cell))) [] ++ bytes_left bytes t d (cell + 1)
  unfolding givens_by
  bytes_turn cell h =
      ap (λ (n : ℕ). bytes (givens_by t d n cell)) (left_one 82 cell h)
      ∙ kept (t cell) _ (givens_by t d (82 - (cell + 1)) (suc cell))
      ∙ ap (λ (k : ℕ). pick (t cell) (part (given (row_of cell) (column_of cell) (d cell))) [] ++ bytes (givens_by t d (82 - (cell + 1)) k)) (sym (add-one cell))

  pub bytes_none : (cell : ℕ) → 82 ≤ cell → bytes_left bytes t d cell ≡ []
  unfolding givens_by
  bytes_none cell h = ap (λ (n : ℕ). bytes (givens_by t d n cell)) (sub-eq-zero_of_le h) ∙ none

-- ---- triples

pub triples_back : (gs : List Given) → triples (triple_bytes gs) ≡ gs
unfolding triples triple_bytes
triples_back [] = refl
triples_back (g ∷ gs) = ap (λ (l : List Given). g ∷ l) (triples_back gs)

pub length_triples : (gs : List Given) → length (triple_bytes gs) ≡ 3 * length gs
unfolding triple_bytes
length_triples [] = refl
length_triples (g ∷ gs) = omega (arith, length_triples gs)

-- 81 cells have at most 81 givens
pub by_room : (t : ℕ → Bool) (d : ℕ → ℕ) → length (triple_bytes (givens_by t d 81 1)) ≤ 3 * 81
by_room t d = omega (arith, length_triples (givens_by t d 81 1), by_length t d 81 1, count_le t 81 1)

-- bytes that are whole triples are those of their givens
pub bytes_back : (bytes : List ℕ) → length bytes % 3 ≡ 0 → triple_bytes (triples bytes) ≡ bytes
unfolding triples triple_bytes
bytes_back [] h = refl
bytes_back (a ∷ []) h = absurd (omega (arith, h))
bytes_back (a ∷ b ∷ []) h = absurd (omega (arith, h))
bytes_back (a ∷ b ∷ c ∷ bytes) h = ap (λ (l : List ℕ). a ∷ b ∷ c ∷ l) (bytes_back bytes (omega (arith, h)))
