-- The order of givens: it is transitive, so givens ascend exactly where each stands before every later one.
-- Assumes nothing.
use Prim.Native.Nat.{ℕ, zero, suc, ◌<◌}
use mathlib.Core.Path.{◌≡◌, refl}
use mathlib.Core.Bool.{Bool, true}
use mathlib.Core.List.{List, [], ◌∷◌}
use native.Mathlib.Nat.{le_of_suc-le-suc, not-suc-le-zero}
use native.Mathlib.Omega.{arith}
use borrow.Author.Tests.{ltb-true, lt-ltb, eqb-true, eq-eqb}
use lib.Dec.{ltb, eqb}
use lib.ListN.{length, get_or}
use Rattle.sudoku.specs.Tests.{both, either}
use Rattle.sudoku.proofs.Walks.{either_cases, either_left, either_right, both_true, both_left, both_right}
use Rattle.puzzle.specs.declared.Given.{Given}
use Rattle.puzzle.specs.Givens.{given, precedes, ascend_from, ascending}

-- a stands before b, or they are equal and t decides
abbrev before : ℕ → ℕ → Bool → Bool
before a b t = either (ltb a b) (both (eqb a b) t)

before_trans : (a b c : ℕ) (s t u : Bool) → (s ≡ true → t ≡ true → u ≡ true) → before a b s ≡ true → before b c t ≡ true → before a c u ≡ true
before_trans a b c s t u h p q =
    either_cases (ltb a b) (both (eqb a b) s) p
    (λ x.
    either_cases (ltb b c) (both (eqb b c) t) q (λ y. less (omega (arith, ltb-true a b x, ltb-true b c y)))
    (λ y. less (omega (arith, ltb-true a b x, eqb-true b c (both_left _ _ y)))))
    (λ x.
    either_cases (ltb b c) (both (eqb b c) t) q
    (λ y. less (omega (arith, ltb-true b c y, eqb-true a b (both_left _ _ x))))
    (λ y.
    either_right (ltb a c) (both (eqb a c) u)
    (both_true (eqb a c) u (eq-eqb a c (omega (arith, eqb-true a b (both_left _ _ x), eqb-true b c (both_left _ _ y))))
    (h (both_right (eqb a b) s x) (both_right (eqb b c) t y)))))
  where
    less : a < c → before a c u ≡ true
    less l = either_left (ltb a c) (both (eqb a c) u) (lt-ltb a c l)

pub precedes_trans : (f g h : Given) → precedes f g ≡ true → precedes g h ≡ true → precedes f h ≡ true
unfolding precedes
precedes_trans f g h p q =
    before_trans f.row g.row h.row _ _ _
    (before_trans f.column g.column h.column _ _ _
    (λ x y. lt-ltb f.digit h.digit (omega (arith, ltb-true f.digit g.digit x, ltb-true g.digit h.digit y))))
    p q

-- ---- a list that ascends

from_first : (g : Given) (gs : List Given) → ascend_from g gs ≡ true → (j : ℕ) → j < length gs → precedes g (get_or gs j (given 0 0 0)) ≡ true
unfolding ascend_from
from_first g [] t j u = absurd (not-suc-le-zero u)
from_first g (h ∷ gs) t zero u = both_left (precedes g h) (ascend_from h gs) t
from_first g (h ∷ gs) t (suc j) u =
    precedes_trans g h (get_or gs j (given 0 0 0)) (both_left (precedes g h) (ascend_from h gs) t)
    (from_first h gs (both_right (precedes g h) (ascend_from h gs) t) j (le_of_suc-le-suc u))

rest_ascends : (g : Given) (gs : List Given) → ascend_from g gs ≡ true → ascending gs ≡ true
unfolding ascend_from ascending
rest_ascends g [] t = refl
rest_ascends g (h ∷ gs) t = both_right (precedes g h) (ascend_from h gs) t

-- each stands before every later one
pub ascends_at : (gs : List Given) → ascending gs ≡ true → (i j : ℕ) → i < j → j < length gs
    → precedes (get_or gs i (given 0 0 0)) (get_or gs j (given 0 0 0)) ≡ true
unfolding ascending
ascends_at [] t i j h u = absurd (not-suc-le-zero u)
ascends_at (g ∷ gs) t zero zero h u = absurd (not-suc-le-zero h)
ascends_at (g ∷ gs) t zero (suc j) h u = from_first g gs t j (le_of_suc-le-suc u)
ascends_at (g ∷ gs) t (suc i) zero h u = absurd (not-suc-le-zero h)
ascends_at (g ∷ gs) t (suc i) (suc j) h u = ascends_at gs (rest_ascends g gs t) i j (le_of_suc-le-suc h) (le_of_suc-le-suc u)

-- it is enough that each stands before the next
ascends_from : (g : Given) (gs : List Given)
    → ((i : ℕ) → suc i < length (g ∷ gs) → precedes (get_or (g ∷ gs) i (given 0 0 0)) (get_or gs i (given 0 0 0)) ≡ true) → ascend_from g gs ≡ true
unfolding ascend_from
ascends_from g [] h = refl
ascends_from g (k ∷ gs) h =
    both_true (precedes g k) (ascend_from k gs) (h 0 (omega arith)) (ascends_from k gs (λ i u. h (suc i) (omega arith)))

pub ascends_of : (gs : List Given)
    → ((i j : ℕ) → i < j → j < length gs → precedes (get_or gs i (given 0 0 0)) (get_or gs j (given 0 0 0)) ≡ true) → ascending gs ≡ true
unfolding ascending
ascends_of [] h = refl
ascends_of (g ∷ gs) h = ascends_from g gs (λ i u. h i (suc i) (omega arith) u)
