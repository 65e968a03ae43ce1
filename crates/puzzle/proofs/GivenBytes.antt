-- Givens that are read from bytes: the walks of the code over `listed`
-- givens, and which givens stand in triples and in the items of a record.
-- Assumes nothing.
use Prim.Native.Nat.{ℕ, zero, suc, ◌+◌, ◌-◌, ◌*◌, ◌/◌, ◌≤◌, ◌<◌}
use mathlib.Core.Path.{◌≡◌, refl, sym, ap, ◌∙◌}
use mathlib.Core.Bool.{Bool}
use mathlib.Core.List.{List, [], ◌∷◌}
use native.Mathlib.Nat.{mul-add, mul-one, zero-add, add_assoc}
use native.Mathlib.Omega.{arith}
use borrow.Author.Tests.{ltb-true, ltb-false}
use lib.Dec.{ltb}
use lib.ListN.{length, get_or, drop, get_or-eq_default}
use lib.Seq.{get_or-drop}
use Rattle.sudoku.specs.Tests.{both, every, run, listed}
use Rattle.sudoku.specs.Grid.{cell_of, put}
use Rattle.sudoku.proofs.Walks.{by_test}
use Rattle.sudoku.proofs.Listed.{length_listed, listed_shift}
use Rattle.puzzle.specs.declared.Given.{Given}
use Rattle.puzzle.specs.declared.Refusal.{Refusal}
use Rattle.puzzle.specs.declared.Layout.{Layout}
use Rattle.puzzle.specs.declared.Layout.TheVariants.{Triples, Items}
use Rattle.puzzle.specs.Refusals.{or_else, first_refused}
use Rattle.puzzle.specs.Givens.{given, triples, precedes, ascend_from, ascending, put_givens, mark_givens}
use Rattle.puzzle.specs.Code.GivenBytes.{given_from, given_at, givens_at, given_in, givens_in}
use Rattle.puzzle.specs.Vouch.{given_matches, givens_match}

-- ---- the walks of the code

module _ (f : ℕ → Given) where
  -- the given before k stands before k's
  abbrev pub in_order : ℕ → Bool
  in_order k = precedes (f (k - 1)) (f k)

  ascend_from_lem : (n i : ℕ) → ascend_from (f i) (listed f n (suc i)) ≡ every in_order n (suc i)
  unfolding ascend_from listed every
  ascend_from_lem zero i = refl
  ascend_from_lem (suc n) i = λ j. both (precedes (f (before j)) (f (suc i))) (ascend_from_lem n (suc i) j)
    where
      before : i ≡ suc i - 1
      before = omega arith

  pub ascending_walk : (n : ℕ) → ascending (listed f n 0) ≡ every in_order (n - 1) 1
  unfolding ascending listed every
  ascending_walk zero = refl
  ascending_walk (suc n) = ascend_from_lem n 0 ∙ ap (λ (k : ℕ). every in_order k 1) {x = n} {y = suc n - 1} (omega arith)

  -- the given with index k, whose place counts from 1
  abbrev pub match_at : List ℕ → ℕ → Refusal
  match_at solution k = given_matches solution (f k) (k + 1)

  pub matches_walk : (solution : List ℕ) (n i : ℕ) → givens_match solution (listed f n i) (i + 1) ≡ first_refused (match_at solution) n i
  unfolding givens_match listed first_refused
  matches_walk solution zero i = refl
  matches_walk solution (suc n) i =
      ap (or_else (match_at solution i))
      (ap (givens_match solution (listed f n (suc i))) {x = suc (i + 1)} {y = suc i + 1} (omega arith) ∙ matches_walk solution n (suc i))

  -- a value of the given with index k, laid at its cell
  abbrev pub lay_at : (Given → ℕ) → List ℕ → ℕ → List ℕ
  lay_at value cells k = put cells (cell_of (f k).row (f k).column) (value (f k))

  pub put_walk : (digits : List ℕ) (n i : ℕ) → run (lay_at (λ (g : Given). g.digit)) digits n i ≡ put_givens digits (listed f n i)
  unfolding put_givens listed run
  put_walk digits zero i = refl
  put_walk digits (suc n) i = put_walk (lay_at (λ (g : Given). g.digit) digits i) n (suc i)

  pub mark_walk : (flags : List ℕ) (n i : ℕ) → run (lay_at (λ (g : Given). 1)) flags n i ≡ mark_givens flags (listed f n i)
  unfolding mark_givens listed run
  mark_walk flags zero i = refl
  mark_walk flags (suc n) i = mark_walk (lay_at (λ (g : Given). 1) flags i) n (suc i)

pub length_givens : (layout : Layout) (bytes : List ℕ) (n : ℕ) → length (givens_in layout bytes n) ≡ n
unfolding givens_in
length_givens layout bytes n = length_listed (given_in layout bytes) n 0

-- ---- a given that would start past the end reads as zeros

pub given_past : (bytes : List ℕ) (start : ℕ) → length bytes ≤ start → given_from bytes start ≡ given 0 0 0
unfolding given_from
given_past bytes start h =
    λ j. given (get_or-eq_default bytes 0 h j) (get_or-eq_default bytes 0 {n = start + 1} (omega arith) j)
    (get_or-eq_default bytes 0 {n = start + 2} (omega arith) j)

-- a start held at the end of the bytes, and one that lies past it, give zeros
pub given_held : (bytes : List ℕ) (k start : ℕ) → (start < length bytes → k ≡ start) → (length bytes ≤ start → length bytes ≤ k)
    → given_from bytes k ≡ given_from bytes start
given_held bytes k start within past =
    by_test (ltb start (length bytes))
    (λ t. ap (given_from bytes) (within (ltb-true _ _ t)))
    (λ t. let h = ltb-false _ _ t in given_past bytes k (past h) ∙ sym (given_past bytes start h))

-- ---- which givens stand in some bytes

-- from the byte with index n on
given_drop : (bytes : List ℕ) (n k : ℕ) → given_from (drop n bytes) k ≡ given_from bytes (n + k)
unfolding given_from
given_drop bytes n k =
    λ j. given (get_or-drop n bytes k 0 j) ((get_or-drop n bytes (k + 1) 0 ∙ ap (at bytes) (sym (add_assoc n k 1))) j)
    ((get_or-drop n bytes (k + 2) 0 ∙ ap (at bytes) (sym (add_assoc n k 2))) j)
  where
    at : List ℕ → ℕ → ℕ
    at l m = get_or l m 0

-- of any layout: the first, and those from one step on
module _ (bytes : List ℕ) (start step : ℕ) where
  given_on : (k : ℕ) → given_at bytes start step (1 + k) ≡ given_at (drop step bytes) start step (0 + k)
  unfolding given_at
  given_on k =
      ap (given_from bytes) one_on ∙ sym (given_drop bytes step (start + step * (0 + k)))
    where
      one_on : start + step * (1 + k) ≡ step + (start + step * (0 + k))
      one_on = omega (arith, mul-add step 1 k, mul-one step, ap (λ (m : ℕ). step * m) (zero-add k))

  pub givens_next : (n : ℕ) → givens_at bytes start step (suc n) ≡ given_at bytes start step 0 ∷ givens_at (drop step bytes) start step n
  unfolding givens_at listed
  givens_next n =
      ap (λ (gs : List Given). given_at bytes start step 0 ∷ gs)
      (listed_shift (given_at bytes start step) (given_at (drop step bytes) start step) n 1 0 given_on)

-- one triple, one item
pub triple_next : (row column digit : ℕ) (bytes : List ℕ) (n : ℕ)
    → givens_at (row ∷ column ∷ digit ∷ bytes) 0 3 (suc n) ≡ given row column digit ∷ givens_at bytes 0 3 n
unfolding given_at given_from
triple_next row column digit bytes n = givens_next (row ∷ column ∷ digit ∷ bytes) 0 3 n

pub item_next : (kind row column digit : ℕ) (bytes : List ℕ) (n : ℕ)
    → givens_at (kind ∷ row ∷ column ∷ digit ∷ bytes) 1 4 (suc n) ≡ given row column digit ∷ givens_at bytes 1 4 n
unfolding given_at given_from
item_next kind row column digit bytes n = givens_next (kind ∷ row ∷ column ∷ digit ∷ bytes) 1 4 n

-- the two layouts
pub in_triples : (bytes : List ℕ) (n : ℕ) → givens_in Triples bytes n ≡ givens_at bytes 0 3 n
unfolding givens_in given_in givens_at
in_triples bytes n = refl

pub in_items : (bytes : List ℕ) (n : ℕ) → givens_in Items bytes n ≡ givens_at bytes 1 4 n
unfolding givens_in given_in givens_at
in_items bytes n = refl

-- all triples of some bytes
triples_at : (bytes : List ℕ) → triples bytes ≡ givens_at bytes 0 3 (length bytes / 3)
unfolding triples givens_at listed
triples_at [] = refl
triples_at (row ∷ []) = refl
triples_at (row ∷ column ∷ []) = refl
triples_at (row ∷ column ∷ digit ∷ bytes) =
    ap (λ (gs : List Given). given row column digit ∷ gs) (triples_at bytes)
    ∙ sym (triple_next row column digit bytes (length bytes / 3))
    ∙ ap (givens_at (row ∷ column ∷ digit ∷ bytes) 0 3) (thirds (length bytes))
  where
    thirds : (n : ℕ) → suc (n / 3) ≡ suc (suc (suc n)) / 3
    thirds n = omega arith

pub triples_in : (bytes : List ℕ) → triples bytes ≡ givens_in Triples bytes (length bytes / 3)
triples_in bytes = triples_at bytes ∙ sym (in_triples bytes (length bytes / 3))
