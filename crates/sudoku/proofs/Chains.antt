-- What the library's chains of iterators answer, in the words of specs/Tests: `all`, `any` and `filter` with
-- `count` over a list or a range are walks over its places.
-- Assumes nothing.
use Prim.Native.Nat.{ℕ, zero, suc, ◌+◌, ◌<◌}
use mathlib.Core.Path.{◌≡◌, refl, sym, ap, ◌∙◌}
use mathlib.Core.Bool.{Bool, true, false, cond, ◌&&◌}
use mathlib.Core.List.{List, [], ◌∷◌}
use native.Mathlib.Nat.{add-sub_cancel_left, add-zero, add-suc, suc-add}
use native.Mathlib.Numerals.{add-one}
use native.Mathlib.Omega.{arith}
use lib.ListN.{length, get_or}
use Rattle.std.specs.List.{list_all, count_by, range_with_len}
use Rattle.std.proofs.lemmas.List.Sums.{sum_by-cons}
use Rattle.sudoku.specs.Tests.{both, bit, every, count}
use Rattle.sudoku.specs.Grid.{at}
use Rattle.sudoku.proofs.Walks.{and_both}

-- f at each place, counted from i on, is p of the entry
abbrev pub At : (ℕ → Bool) → (ℕ → Bool) → List ℕ → ℕ → Type 0
At f p xs i = (k : ℕ) → k < length xs → f (i + k) ≡ p (get_or xs k 0)

at_next : (f p : ℕ → Bool) (x : ℕ) (xs : List ℕ) (i : ℕ) → At f p (x ∷ xs) i → At f p xs (suc i)
at_next f p x xs i h k l = ap f (suc-add i k ∙ sym (add-suc i k)) ∙ h (suc k) (omega arith)

at_here : (f p : ℕ → Bool) (x : ℕ) (xs : List ℕ) (i : ℕ) → At f p (x ∷ xs) i → f i ≡ p x
at_here f p x xs i h = ap f (sym (add-zero i)) ∙ h 0 (omega arith)

-- the library's and the walks' words for both of two tests, and for one that is counted
and_is : (a b c d : Bool) → a ≡ c → b ≡ d → (a && b) ≡ both c d
and_is a b c d p q = and_both a b ∙ (λ j. both (p j) (q j))

one_is : (b : Bool) → cond b 1 0 ≡ bit b
unfolding bit
one_is true = refl
one_is false = refl

pub all_walk : (f p : ℕ → Bool) (xs : List ℕ) (i : ℕ) → At f p xs i → list_all p xs ≡ every f (length xs) i
unfolding every
all_walk f p [] i h = refl
all_walk f p (x ∷ xs) i h =
    and_is (p x) (list_all p xs) (f i) (every f (length xs) (suc i)) (sym (at_here f p x xs i h)) (all_walk f p xs (suc i) (at_next f p x xs i h))

pub count_walk : (f p : ℕ → Bool) (xs : List ℕ) (i : ℕ) → At f p xs i → count_by p xs ≡ count f (length xs) i
unfolding count
count_walk f p [] i h = refl
count_walk f p (x ∷ xs) i h =
    sum_by-cons (λ y. cond (p y) 1 0) x xs
    ∙ (λ j. (one_is (p x) ∙ ap bit (sym (at_here f p x xs i h))) j + count_walk f p xs (suc i) (at_next f p x xs i h) j)

pub all_range : (f : ℕ → Bool) (n i : ℕ) → list_all f (range_with_len i n) ≡ every f n i
unfolding every
all_range f zero i = refl
all_range f (suc n) i = and_is (f i) (list_all f (range_with_len (i + 1) n)) (f i) (every f n (suc i)) refl (ap (λ (k : ℕ). list_all f (range_with_len k n)) (add-one i) ∙ all_range f n (suc i))

-- a list of 81 entries holds at cell k + 1 what stands at k
pub at_place : (l : List ℕ) (k : ℕ) → at l (1 + k) ≡ get_or l k 0
unfolding at
at_place l k = ap (λ (i : ℕ). get_or l i 0) (add-sub_cancel_left 1 k)
