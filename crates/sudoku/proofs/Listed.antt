-- The laws of `listed` of specs/Tests, the values of a function at the n numbers from i
-- on: its length, its entries, and a list that a loop fills with them from the front.
-- Assumes nothing.
use Prim.Native.Nat.{ℕ, zero, suc, ◌+◌, ◌≤◌, ◌<◌}
use mathlib.Core.Path.{◌≡◌, refl, sym, ap, ◌∙◌}
use mathlib.Core.List.{List, [], ◌∷◌, ◌++◌}
use native.Mathlib.Nat.{add-zero, suc-add, add-suc, zero-add, le_of_suc-le-suc}
use native.Mathlib.Numerals.{add-one}
use native.Mathlib.Omega.{arith}
use lib.ListN.{length, get_or, set, take}
use lib.Seq.{take_all, take-suc-set}
use Rattle.sudoku.specs.Tests.{listed}

module _ {A : Type 0} (f : ℕ → A) where
  pub length_listed : (n i : ℕ) → length (listed f n i) ≡ n
  unfolding listed
  length_listed zero i = refl
  length_listed (suc n) i = ap suc (length_listed n (suc i))

  pub listed_at : (n i k : ℕ) (d : A) → k < n → get_or (listed f n i) k d ≡ f (i + k)
  unfolding listed
  listed_at zero i k d h = absurd (omega arith)
  listed_at (suc n) i zero d h = ap f (sym (add-zero i))
  listed_at (suc n) i (suc k) d h = listed_at n (suc i) k d (le_of_suc-le-suc h) ∙ ap f (suc-add i k ∙ sym (add-suc i k))

  -- of a walk from 0 on
  pub listed_from : (n k : ℕ) (d : A) → k < n → get_or (listed f n 0) k d ≡ f k
  listed_from n k d h = listed_at n 0 k d h ∙ ap f (zero-add k)

  -- one more at the end
  pub listed_last : (n i : ℕ) → listed f (suc n) i ≡ listed f n i ++ (f (i + n) ∷ [])
  unfolding listed
  listed_last zero i = ap (λ (k : ℕ). f k ∷ []) (sym (add-zero i))
  listed_last (suc n) i =
      ap (λ (l : List A). f i ∷ l) (listed_last n (suc i) ∙ ap (λ (k : ℕ). listed f n (suc i) ++ (f k ∷ [])) (suc-add i n ∙ sym (add-suc i n)))

  -- a turn of a loop that stores f i at i
  pub fill_more : (l : List A) (i : ℕ) → i < length l → take i l ≡ listed f i 0 → take (i + 1) (set l i (f i)) ≡ listed f (i + 1) 0
  fill_more l i h e =
      ap (λ (k : ℕ). take k (set l i (f i))) (add-one i)
      ∙ take-suc-set l i (f i) h
      ∙ (λ j. e j ++ (f (sym (zero-add i) j) ∷ []))
      ∙ sym (listed_last i 0)
      ∙ ap (λ (k : ℕ). listed f k 0) (sym (add-one i))

  -- its end
  pub fill_all : (l : List A) (n i : ℕ) → length l ≡ n → n ≤ i → i ≤ n → take i l ≡ listed f i 0 → l ≡ listed f n 0
  fill_all l n i p u v e =
      sym (take_all i l (omega arith)) ∙ e ∙ ap (λ (k : ℕ). listed f k 0) (omega arith)

-- two walks whose values agree one by one
pub listed_agree : {A : Type 0} (f g : ℕ → A) (n i j : ℕ) → ((k : ℕ) → k < n → f (i + k) ≡ g (j + k)) → listed f n i ≡ listed g n j
unfolding listed
listed_agree f g zero i j h = refl
listed_agree f g (suc n) i j h =
    λ t. (ap f (sym (add-zero i)) ∙ h 0 (omega arith) ∙ ap g (add-zero j)) t
    ∷ listed_agree f g n (suc i) (suc j)
    (λ k u. ap f (suc-add i k ∙ sym (add-suc i k)) ∙ h (suc k) (omega arith) ∙ ap g (add-suc j k ∙ sym (suc-add j k))) t

pub listed_shift : {A : Type 0} (f g : ℕ → A) (n i j : ℕ) → ((k : ℕ) → f (i + k) ≡ g (j + k)) → listed f n i ≡ listed g n j
listed_shift f g n i j h = listed_agree f g n i j (λ k u. h k)
