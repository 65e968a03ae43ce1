-- A property that each entry of a list has: how it is made, taken apart, and read at an index.
-- Assumes nothing.
use Prim.Native.Nat.{ℕ, zero, suc, ◌<◌}
use mathlib.Core.List.{List, [], ◌∷◌, ◌++◌, map}
use native.Mathlib.Nat.{le_of_suc-le-suc, not-suc-le-zero}
use native.Mathlib.Omega.{arith}
use lib.ListN.{length, get_or}

-- each entry has the property
unfoldable pub Each : {A : Type 0} → (A → Type 0) → List A → Type 0
Each P [] = Unit
Each P (x ∷ l) = P x × Each P l

module _ {A : Type 0} (P : A → Type 0) where
  pub each_append : (l m : List A) → Each P l → Each P m → Each P (l ++ m)
  unfolding Each
  each_append [] m h g = g
  each_append (x ∷ l) m h g = (h.0, each_append l m h.1 g)

  pub each_right : (l m : List A) → Each P (l ++ m) → Each P m
  unfolding Each
  each_right [] m h = h
  each_right (x ∷ l) m h = each_right l m h.1

  -- every entry
  pub each_all : ((x : A) → P x) → (l : List A) → Each P l
  unfolding Each
  each_all p [] = tt
  each_all p (x ∷ l) = (p x, each_all p l)

  -- read at an index, and made from all of them
  pub each_at : (l : List A) → Each P l → (i : ℕ) (d : A) → i < length l → P (get_or l i d)
  unfolding Each
  each_at [] h i d u = absurd (not-suc-le-zero u)
  each_at (x ∷ l) h zero d u = h.0
  each_at (x ∷ l) h (suc i) d u = each_at l h.1 i d (le_of_suc-le-suc u)

  pub each_of : (l : List A) (d : A) → ((i : ℕ) → i < length l → P (get_or l i d)) → Each P l
  unfolding Each
  each_of [] d h = tt
  each_of (x ∷ l) d h = (h 0 (omega arith), each_of l d (λ i u. h (suc i) (omega arith)))

-- from one property to another
pub each_to : {A : Type 0} (P Q : A → Type 0) → ((x : A) → P x → Q x) → (l : List A) → Each P l → Each Q l
unfolding Each
each_to P Q f [] h = tt
each_to P Q f (x ∷ l) h = (f x h.0, each_to P Q f l h.1)

-- of a mapped list
pub each_map : {A B : Type 0} (P : B → Type 0) (f : A → B) (l : List A) → Each (λ (x : A). P (f x)) l → Each P (map f l)
unfolding Each
each_map P f [] h = tt
each_map P f (x ∷ l) h = (h.0, each_map P f l h.1)

pub each_unmap : {A B : Type 0} (P : B → Type 0) (f : A → B) (l : List A) → Each P (map f l) → Each (λ (x : A). P (f x)) l
unfolding Each
each_unmap P f [] h = tt
each_unmap P f (x ∷ l) h = (h.0, each_unmap P f l h.1)
