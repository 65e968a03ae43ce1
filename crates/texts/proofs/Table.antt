-- What is found in a table of names, against a list of tests in its order.
-- Assumes nothing.
use Rattle.std.proofs.Common.{◌≡◌, ℕ, Bool, true, false, not, List, [], ◌∷◌, ◌++◌, map, refl, sym, ap, ◌∙◌, Option, Some, None}
use Rattle.std.specs.List.{find}
use Rattle.std.specs.Option.{option_map, MatchOption, IsSomeAnd}
use Rattle.sudoku.specs.Tests.{pick, both, Test, first}
use Rattle.sudoku.proofs.Walks.{by_test, both_left, both_right, refused, no_if}
use lib.Dec.{eqb}
use Rattle.texts.specs.declared.Verb.{Verb}
use Rattle.texts.specs.Commands.{is_same, found}

none_found : found (first []) ≡ None
unfolding first found pick
none_found = refl

-- the tests ask whether the name is an entry's text, and their numbers are the letters of the entries' commands
module _ {E : Type 0} (text : E → List ℕ) (verb : E → Verb) (name : List ℕ) where
  pub found_first : (es : List E) (ts : List Test) → map (λ t. t.holds) ts ≡ map (is_same name) (map text es) → map (λ t. found t.number) ts ≡ map Some (map verb es) → option_map verb (find (λ e. is_same name (text e)) es) ≡ found (first ts)
  found_first [] [] p q = sym none_found
  found_first [] (t ∷ ts) p q = absurd cc
  found_first (e ∷ es) [] p q = absurd cc
  found_first (e ∷ es) (t ∷ ts) p q =
      let test : is_same name (text e) ≡ t.holds = cc in
      let says : found t.number ≡ Some (verb e) = cc in
      let tests : map (λ t. t.holds) ts ≡ map (is_same name) (map text es) = cc in
      let letters : map (λ t. found t.number) ts ≡ map Some (map verb es) = cc in
      by_test t.holds
      (λ h. simp (test, h) (sym (ap found (refused t.holds t.number ts h) ∙ says)))
      (λ h. simp (test, h) (found_first es ts tests letters ∙ sym (ap found (no_if t.holds t.number ts h))))

-- each test stands for a number that is not 0
unfoldable pub numbered : List Test → Bool
numbered [] = true
numbered (t ∷ ts) = both (not (eqb t.number 0)) (numbered ts)

is_not : (t : Bool) → not t ≡ true → t ≡ false
is_not true p = sym p
is_not false p = refl

-- the first of two lists of tests, one behind the other
pub first-append : (ts us : List Test) → numbered ts ≡ true → first (ts ++ us) ≡ pick (eqb (first ts) 0) (first us) (first ts)
unfolding first pick numbered
first-append [] us p = refl
first-append (t ∷ ts) us p =
    let none : eqb t.number 0 ≡ false = is_not _ (both_left _ _ p) in
    by_test t.holds
    (λ h. simp (h, none))
    (λ h. simp h (first-append ts us (both_right (not (eqb t.number 0)) _ p)))

-- what is made of a value that may be there

pub mapped : {A B : Type 0} (f : A → B) (r : Option A) (s : Option B) (R : A → B → Type 0) → ((x : A) (b : B) → R x b → b ≡ f x) → MatchOption r (s ≡ None) (λ x. IsSomeAnd s (R x)) → s ≡ option_map f r
mapped f None s R is h = h
mapped f (Some x) None R is h = absurd h
mapped f (Some x) (Some b) R is h = ap Some (is x b h)

pub mapped_twice : {A B C : Type 0} (f : A → B) (g : B → C) (r : Option A) → option_map (λ x. g (f x)) r ≡ option_map g (option_map f r)
mapped_twice f g None = refl
mapped_twice f g (Some x) = refl
