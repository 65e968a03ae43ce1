-- Texts that are the same, and what a name is of which that was found.
-- Assumes nothing.
use Rattle.std.proofs.Common.{◌≡◌, ℕ, true, List, length, get_or, ap, arith, Decides, None, unwrap_or}
use Rattle.std.proofs.lemmas.Grind.{same_number_lists}
use borrow.Author.Tests.{eq-eqb, eqb-true}
use lib.Dec.{eqb}
use Rattle.sudoku.specs.Tests.{pick}
use Rattle.sudoku.proofs.Walks.{both_true, both_left, both_right, every_at, every_of, by_test}
use Rattle.texts.specs.declared.Verb.TheVariants.{Unknown}
use Rattle.texts.specs.Commands.{is_same, verb_of_letter, found}

pub same_is : (a b : List ℕ) → is_same a b ≡ true → a ≡ b
unfolding is_same
same_is a b h =
    let long = eqb-true (length a) (length b) (both_left _ _ h) in
    same_number_lists a b long
    (λ k below. eqb-true (get_or a k 0) (get_or b k 0) (every_at (λ i. eqb (get_or a i 0) (get_or b i 0)) (length a) 0 k (both_right (eqb (length a) (length b)) _ h) (omega arith) (omega arith)))

pub is_same_of : (a b : List ℕ) → a ≡ b → is_same a b ≡ true
unfolding is_same
is_same_of a b e =
    both_true _ _ (eq-eqb _ _ (ap (λ (l : List ℕ). length l) e))
    (every_of (λ i. eqb (get_or a i 0) (get_or b i 0)) (length a) 0 (λ k _ _. eq-eqb _ _ (ap (λ (l : List ℕ). get_or l k 0) e)))

pub is_same-Decides : (a b : List ℕ) → Decides (is_same a b) (a ≡ b)
is_same-Decides a b = (same_is a b, is_same_of a b)

-- the command of what was found, and an unknown one where no name was
pub found_or_unknown : (letter : ℕ) → unwrap_or (found letter) (Unknown None) ≡ verb_of_letter letter
unfolding found pick verb_of_letter
found_or_unknown letter = by_test (eqb letter 0) (λ e. simp (eqb-true letter 0 e)) (λ e. simp e)
