-- The laws of specs/Tests: choices and joined tests, the list of
-- refusals, and the walks `every`, `count`, `among` and `run`.
-- A loop counts i up to e, which it does not reach: what is left of its walk is `every f (e - i)
-- i`. So a walk of the cells 1 to 81 starts as `every f (82 - 1) 1`, which is `every f 81 1`.
-- Of each walk: what a turn takes off (`-step`, and `-more` or a name of its own
-- where the test's outcome is known), and that nothing is left at the end (`-all`).
-- Assumes nothing.
use Prim.Native.Nat.{ℕ, zero, suc, ◌+◌, ◌-◌, ◌≤◌, ◌<◌}
use mathlib.Core.Path.{◌≡◌, refl, sym, ap, subst, ◌∙◌}
use mathlib.Core.Logic.{⊎_elim}
use mathlib.Core.Bool.{Bool, true, false, not, ◌&&◌, ◌||◌}
use mathlib.Core.List.{List, [], ◌∷◌}
use native.Mathlib.Nat.{eq-or-lt_of_le, sub-eq-zero_of_le, suc-add, add-suc, zero-add, add-zero, le_of_suc-le-suc, not-suc-le-zero}
use native.Mathlib.Numerals.{add-one}
use native.Mathlib.Omega.{arith}
use lib.ListN.{length, get_or}
use Rattle.sudoku.specs.Tests.{pick, both, either, bit, every, count, run, keep, among, Test, ◌⇒◌, first}

-- ---- a test's outcome

pub not_both_ways : (t : Bool) → t ≡ true → t ≡ false → ⊥
not_both_ways t p q = let z : ◌≡◌ {A = ℕ} 0 1 = cc in omega arith

-- by the outcome of a test
pub by_test : {A : Type 0} (t : Bool) → (t ≡ true → A) → (t ≡ false → A) → A
by_test true p q = p refl
by_test false p q = q refl

pub not_is_true : (t : Bool) → t ≡ false → not t ≡ true
not_is_true t p = ap not p

pub not_is_false : (t : Bool) → t ≡ true → not t ≡ false
not_is_false t p = ap not p

-- two tests that hold in the same cases are equal
pub same_test : (s t : Bool) → (s ≡ true → t ≡ true) → (t ≡ true → s ≡ true) → s ≡ t
same_test true t p q = sym (p refl)
same_test false true p q = q refl
same_test false false p q = refl

-- ---- pick

module _ {A : Type 0} where
  pub pick_true : (t : Bool) (a b : A) → t ≡ true → pick t a b ≡ a
  unfolding pick
  pick_true t a b p = ap (λ (s : Bool). pick s a b) p

  pub pick_false : (t : Bool) (a b : A) → t ≡ false → pick t a b ≡ b
  unfolding pick
  pick_false t a b p = ap (λ (s : Bool). pick s a b) p

  pub pick_same : (t : Bool) (a : A) → pick t a a ≡ a
  unfolding pick
  pick_same true a = refl
  pick_same false a = refl

-- ---- both

pub both_true : (a b : Bool) → a ≡ true → b ≡ true → both a b ≡ true
unfolding both
both_true true b p q = q
both_true false b p q = p

pub both_left : (a b : Bool) → both a b ≡ true → a ≡ true
unfolding both
both_left true b p = refl
both_left false b p = p

pub both_right : (a b : Bool) → both a b ≡ true → b ≡ true
unfolding both
both_right true b p = p
both_right false b p = absurd (not_both_ways false p refl)

pub both_first : (a b : Bool) → a ≡ true → both a b ≡ b
unfolding both
both_first a b p = ap (λ (t : Bool). both t b) p

pub both_second : (a b : Bool) → b ≡ true → both a b ≡ a
unfolding both
both_second true b p = p
both_second false b p = refl

pub both_false_left : (a b : Bool) → a ≡ false → both a b ≡ false
unfolding both
both_false_left a b p = ap (λ (t : Bool). both t b) p

pub both_false_right : (a b : Bool) → b ≡ false → both a b ≡ false
unfolding both
both_false_right true b p = p
both_false_right false b p = refl

pub both_assoc : (a b c : Bool) → both (both a b) c ≡ both a (both b c)
unfolding both
both_assoc true b c = refl
both_assoc false b c = refl

pub both_comm : (a b : Bool) → both a b ≡ both b a
unfolding both
both_comm true true = refl
both_comm true false = refl
both_comm false true = refl
both_comm false false = refl

both_swap : (a b c d : Bool) → both (both a b) (both c d) ≡ both (both a c) (both b d)
unfolding both
both_swap true true c d = refl
both_swap true false c d = sym (both_false_right c false refl)
both_swap false b c d = refl

-- as the code joins two tests
pub and_both : (a b : Bool) → (a && b) ≡ both a b
unfolding both
and_both true b = refl
and_both false b = refl

-- ---- either

pub either_left : (a b : Bool) → a ≡ true → either a b ≡ true
unfolding either
either_left a b p = ap (λ (t : Bool). either t b) p

pub either_right : (a b : Bool) → b ≡ true → either a b ≡ true
unfolding either
either_right true b p = refl
either_right false b p = p

pub either_first : (a b : Bool) → b ≡ false → either a b ≡ a
unfolding either
either_first true b p = refl
either_first false b p = p

pub either_second : (a b : Bool) → a ≡ false → either a b ≡ b
unfolding either
either_second a b p = ap (λ (t : Bool). either t b) p

pub either_false : (a b : Bool) → a ≡ false → b ≡ false → either a b ≡ false
unfolding either
either_false true b p q = p
either_false false b p q = q

pub either_false_left : (a b : Bool) → either a b ≡ false → a ≡ false
unfolding either
either_false_left true b p = p
either_false_left false b p = refl

pub either_false_right : (a b : Bool) → either a b ≡ false → b ≡ false
unfolding either
either_false_right true b p = absurd (not_both_ways true refl p)
either_false_right false b p = p

-- as the code joins two tests of which one is enough
pub or_either : (a b : Bool) → (a || b) ≡ either a b
unfolding either
or_either true b = refl
or_either false b = refl

-- where one of two tests holds: what follows from each
pub either_cases : {A : Type 0} (a b : Bool) → either a b ≡ true → (a ≡ true → A) → (b ≡ true → A) → A
unfolding either
either_cases true b p l r = l refl
either_cases false b p l r = r p

-- ---- the list of refusals

-- the code's `if t { return n; }` where t holds, and where it does not
pub refused : (t : Bool) (n : ℕ) (ts : List Test) → t ≡ true → first ((t ⇒ n) ∷ ts) ≡ n
unfolding first pick
refused t n ts p = ap (λ (s : Bool). pick s n (first ts)) p

pub no_if : (t : Bool) (n : ℕ) (ts : List Test) → t ≡ false → first ((t ⇒ n) ∷ ts) ≡ first ts
unfolding first pick
no_if t n ts p = ap (λ (s : Bool). pick s n (first ts)) p

-- no test, no refusal
pub first_none : first [] ≡ 0
unfolding first
first_none = refl

-- a call that is accepted has passed each test
pub passed : (t : Bool) (k : ℕ) (ts : List Test) → first ((t ⇒ suc k) ∷ ts) ≡ 0 → (t ≡ false) × (first ts ≡ 0)
unfolding first pick
passed true k ts p = absurd (omega (arith, p))
passed false k ts p = (refl, p)

-- ---- what a turn of a walk takes off

-- what is left, one number on
pub left_one : (e i : ℕ) → i < e → e - i ≡ suc (e - (i + 1))
left_one e i h = omega arith

module _ (f : ℕ → Bool) (e i : ℕ) where
  pub every_step : i < e → every f (e - i) i ≡ both (f i) (every f (e - (i + 1)) (i + 1))
  unfolding every
  every_step h =
      ap (λ (n : ℕ). every f n i) (left_one e i h) ∙ ap (λ (k : ℕ). both (f i) (every f (e - (i + 1)) k)) (sym (add-one i))

  pub every_more : i < e → f i ≡ true → every f (e - i) i ≡ every f (e - (i + 1)) (i + 1)
  every_more h p = every_step h ∙ both_first (f i) (every f (e - (i + 1)) (i + 1)) p

  pub every_fails : i < e → f i ≡ false → every f (e - i) i ≡ false
  every_fails h p = every_step h ∙ both_false_left (f i) (every f (e - (i + 1)) (i + 1)) p

  pub every_all : e ≤ i → every f (e - i) i ≡ true
  unfolding every
  every_all h = ap (λ (n : ℕ). every f n i) (sub-eq-zero_of_le h)

  pub count_step : i < e → count f (e - i) i ≡ bit (f i) + count f (e - (i + 1)) (i + 1)
  unfolding count
  count_step h =
      ap (λ (n : ℕ). count f n i) (left_one e i h) ∙ ap (λ (k : ℕ). bit (f i) + count f (e - (i + 1)) k) (sym (add-one i))

  -- with what the loop has counted so far, n
  pub count_more : (n : ℕ) → i < e → f i ≡ true → n + count f (e - i) i ≡ n + 1 + count f (e - (i + 1)) (i + 1)
  unfolding bit
  count_more n h p = omega (arith, count_step h, ap bit p)

  pub count_skips : i < e → f i ≡ false → count f (e - i) i ≡ count f (e - (i + 1)) (i + 1)
  unfolding bit
  count_skips h p = omega (arith, count_step h, ap bit p)

  pub count_all : e ≤ i → count f (e - i) i ≡ 0
  unfolding count
  count_all h = ap (λ (n : ℕ). count f n i) (sub-eq-zero_of_le h)

  pub among_step : i < e → among f (e - i) i ≡ keep (f i) i (among f (e - (i + 1)) (i + 1))
  unfolding among
  among_step h =
      ap (λ (n : ℕ). among f n i) (left_one e i h) ∙ ap (λ (k : ℕ). keep (f i) i (among f (e - (i + 1)) k)) (sym (add-one i))

  pub among_more : i < e → f i ≡ true → among f (e - i) i ≡ i ∷ among f (e - (i + 1)) (i + 1)
  unfolding keep
  among_more h p = among_step h ∙ ap (λ (t : Bool). keep t i (among f (e - (i + 1)) (i + 1))) p

  pub among_skips : i < e → f i ≡ false → among f (e - i) i ≡ among f (e - (i + 1)) (i + 1)
  unfolding keep
  among_skips h p = among_step h ∙ ap (λ (t : Bool). keep t i (among f (e - (i + 1)) (i + 1))) p

  pub among_all : e ≤ i → among f (e - i) i ≡ []
  unfolding among
  among_all h = ap (λ (n : ℕ). among f n i) (sub-eq-zero_of_le h)

module _ {A : Type 0} (f : A → ℕ → A) (a : A) (e i : ℕ) where
  pub run_more : i < e → run f a (e - i) i ≡ run f (f a i) (e - (i + 1)) (i + 1)
  unfolding run
  run_more h =
      ap (λ (n : ℕ). run f a n i) (left_one e i h) ∙ ap (λ (k : ℕ). run f (f a i) (e - (i + 1)) k) (sym (add-one i))

  pub run_all : e ≤ i → run f a (e - i) i ≡ a
  unfolding run
  run_all h = ap (λ (n : ℕ). run f a n i) (sub-eq-zero_of_le h)

-- ---- a walk and its numbers

-- k is i or lies beyond it
pub from_here : {A : Type 0} (i k : ℕ) → i ≤ k → (i ≡ k → A) → (suc i ≤ k → A) → A
from_here i k h here beyond = ⊎_elim here beyond (eq-or-lt_of_le h)

-- a walk with two tests is the walks with each of them
pub every_both : (f g : ℕ → Bool) (n i : ℕ) → every (λ k. both (f k) (g k)) n i ≡ both (every f n i) (every g n i)
unfolding every both
every_both f g zero i = refl
every_both f g (suc n) i = ap (both (both (f i) (g i))) (every_both f g n (suc i)) ∙ both_swap (f i) (g i) (every f n (suc i)) (every g n (suc i))

pub every_at : (f : ℕ → Bool) (n i k : ℕ) → every f n i ≡ true → i ≤ k → k < i + n → f k ≡ true
unfolding every
every_at f zero i k p l u = absurd (omega arith)
every_at f (suc n) i k p l u =
    from_here i k l (λ e. subst (λ (m : ℕ). f m ≡ true) e (both_left (f i) (every f n (suc i)) p))
    (λ b. every_at f n (suc i) k (both_right (f i) (every f n (suc i)) p) b (omega arith))

pub every_of : (f : ℕ → Bool) (n i : ℕ) → ((k : ℕ) → i ≤ k → k < i + n → f k ≡ true) → every f n i ≡ true
unfolding every
every_of f zero i h = refl
every_of f (suc n) i h =
    both_true (f i) (every f n (suc i)) (h i (omega arith) (omega arith)) (every_of f n (suc i) (λ k l u. h k (omega arith) (omega arith)))

-- a number at which a test has an outcome, among the n from i on
pub record Place (f : ℕ → Bool) (t : Bool) (n i : ℕ) : Type 0 where
  pub at : ℕ
  pub from : i ≤ at
  pub below : at < i + n
  pub is : f at ≡ t

-- where not each number passes, one fails
pub every_not : (f : ℕ → Bool) (n i : ℕ) → every f n i ≡ false → Place f false n i
unfolding every
every_not f zero i p = absurd (not_both_ways true refl p)
every_not f (suc n) i p =
    by_test (f i) (λ h. later (every_not f n (suc i) (sym (both_first (f i) (every f n (suc i)) h) ∙ p)))
    (λ h. record { at = i; from = omega arith; below = omega arith; is = h })
  where
    later : Place f false n (suc i) → Place f false (suc n) i
    later w = record { at = w.at; from = omega arith; below = omega arith; is = w.is }

-- ---- counting

-- two tests that agree at each of the numbers
pub count_same : (f g : ℕ → Bool) (n i : ℕ) → ((k : ℕ) → i ≤ k → k < i + n → f k ≡ g k) → count f n i ≡ count g n i
unfolding count
count_same f g zero i h = refl
count_same f g (suc n) i h =
    λ j. bit (h i (omega arith) (omega arith) j) + count_same f g n (suc i) (λ k l u. h k (omega arith) (omega arith)) j

pub bit_le : (t : Bool) → bit t ≤ 1
unfolding bit
bit_le true = omega arith
bit_le false = omega arith

pub count_le : (f : ℕ → Bool) (n i : ℕ) → count f n i ≤ n
unfolding count
count_le f zero i = omega arith
count_le f (suc n) i = omega (arith, bit_le (f i), count_le f n (suc i))

-- one at which the test holds is counted
pub count_some : (f : ℕ → Bool) (n i k : ℕ) → i ≤ k → k < i + n → f k ≡ true → 1 ≤ count f n i
unfolding count bit
count_some f zero i k l u p = absurd (omega arith)
count_some f (suc n) i k l u p =
    from_here i k l (λ e. omega (arith, ap bit (subst (λ (m : ℕ). f m ≡ true) (sym e) p)))
    (λ b. omega (arith, count_some f n (suc i) k b (omega arith) p))

pub count_none : (f : ℕ → Bool) (n i k : ℕ) → count f n i ≡ 0 → i ≤ k → k < i + n → f k ≡ false
count_none f n i k p l u = by_test (f k) (λ h. absurd (omega (arith, count_some f n i k l u h))) (λ h. h)

-- each passes: all n are counted
pub count_every : (f : ℕ → Bool) (n i : ℕ) → every f n i ≡ true → count f n i ≡ n
unfolding count every bit
count_every f zero i p = refl
count_every f (suc n) i p =
    omega (arith, ap bit (both_left (f i) (every f n (suc i)) p), count_every f n (suc i) (both_right (f i) (every f n (suc i)) p))

-- ---- the list of those at which a test holds

pub keep_length : {A : Type 0} (t : Bool) (x : A) (l : List A) → length (keep t x l) ≡ bit t + length l
unfolding keep bit
keep_length true x l = omega arith
keep_length false x l = omega arith

pub keep_true : {A : Type 0} (t : Bool) (x : A) (l : List A) → t ≡ true → keep t x l ≡ x ∷ l
unfolding keep
keep_true t x l p = ap (λ (s : Bool). keep s x l) p

pub keep_false : {A : Type 0} (t : Bool) (x : A) (l : List A) → t ≡ false → keep t x l ≡ l
unfolding keep
keep_false t x l p = ap (λ (s : Bool). keep s x l) p

pub length_among : (f : ℕ → Bool) (n i : ℕ) → length (among f n i) ≡ count f n i
unfolding among count
length_among f zero i = refl
length_among f (suc n) i = keep_length (f i) i (among f n (suc i)) ∙ ap (λ (k : ℕ). bit (f i) + k) (length_among f n (suc i))

-- each entry is one of the numbers, and the test holds there
pub record Passes (f : ℕ → Bool) (n i k : ℕ) : Type 0 where
  pub from : i ≤ k
  pub below : k < i + n
  pub is : f k ≡ true

passes_later : (f : ℕ → Bool) (n i k : ℕ) → Passes f n (suc i) k → Passes f (suc n) i k
passes_later f n i k w = record { from = omega arith; below = omega arith; is = w.is }

kept_at : (f : ℕ → Bool) (n i : ℕ) (l : List ℕ) (t : Bool) → f i ≡ t → ((j : ℕ) → j < length l → Passes f n (suc i) (get_or l j 0))
    → (j : ℕ) → j < length (keep t i l) → Passes f (suc n) i (get_or (keep t i l) j 0)
unfolding keep
kept_at f n i l true p rest zero h = record { from = omega arith; below = omega arith; is = p }
kept_at f n i l true p rest (suc j) h = passes_later f n i (get_or l j 0) (rest j (le_of_suc-le-suc h))
kept_at f n i l false p rest zero h = passes_later f n i (get_or l 0 0) (rest 0 h)
kept_at f n i l false p rest (suc j) h = passes_later f n i (get_or l (suc j) 0) (rest (suc j) h)

pub among_at : (f : ℕ → Bool) (n i j : ℕ) → j < length (among f n i) → Passes f n i (get_or (among f n i) j 0)
unfolding among
among_at f zero i j h = absurd (not-suc-le-zero h)
among_at f (suc n) i j h = kept_at f n i (among f n (suc i)) (f i) refl (λ k. among_at f n (suc i) k) j h

-- the place of k in a list
pub record Entry (l : List ℕ) (k : ℕ) : Type 0 where
  pub at : ℕ
  pub within : at < length l
  pub is : get_or l at 0 ≡ k

kept_has : (t : Bool) (i : ℕ) (l : List ℕ) (k : ℕ) → Entry l k → Entry (keep t i l) k
unfolding keep
kept_has true i l k w = record { at = suc w.at; within = omega (arith, w.within); is = w.is }
kept_has false i l k w = w

kept_here : (t : Bool) (i : ℕ) (l : List ℕ) → t ≡ true → Entry (keep t i l) i
unfolding keep
kept_here true i l p = record { at = 0; within = omega arith; is = refl }
kept_here false i l p = absurd (not_both_ways false p refl)

-- each of the numbers at which the test holds is an entry
pub among_has : (f : ℕ → Bool) (n i k : ℕ) → i ≤ k → k < i + n → f k ≡ true → Entry (among f n i) k
unfolding among
among_has f zero i k l u p = absurd (omega arith)
among_has f (suc n) i k l u p =
    from_here i k l
    (λ e. subst (λ (m : ℕ). Entry (among f (suc n) i) m) e (kept_here (f i) i (among f n (suc i)) (subst (λ (m : ℕ). f m ≡ true) (sym e) p)))
    (λ b. kept_has (f i) i (among f n (suc i)) k (among_has f n (suc i) k b (omega arith) p))

kept_ascends : (t : Bool) (i : ℕ) (l : List ℕ) → ((j : ℕ) → j < length l → i < get_or l j 0)
    → ((j k : ℕ) → j < k → k < length l → get_or l j 0 < get_or l k 0)
    → (j k : ℕ) → j < k → k < length (keep t i l) → get_or (keep t i l) j 0 < get_or (keep t i l) k 0
unfolding keep
kept_ascends true i l low up zero zero h u = absurd (omega arith)
kept_ascends true i l low up zero (suc k) h u = low k (le_of_suc-le-suc u)
kept_ascends true i l low up (suc j) zero h u = absurd (omega arith)
kept_ascends true i l low up (suc j) (suc k) h u = up j k (le_of_suc-le-suc h) (le_of_suc-le-suc u)
kept_ascends false i l low up zero k h u = up 0 k h u
kept_ascends false i l low up (suc j) k h u = up (suc j) k h u

-- entries ascend
pub among_ascends : (f : ℕ → Bool) (n i j k : ℕ) → j < k → k < length (among f n i) → get_or (among f n i) j 0 < get_or (among f n i) k 0
unfolding among
among_ascends f zero i j k h u = absurd (not-suc-le-zero u)
among_ascends f (suc n) i j k h u =
    kept_ascends (f i) i (among f n (suc i)) (λ m w. (among_at f n (suc i) m w).from)
    (λ m w. among_ascends f n (suc i) m w) j k h u

-- ---- a run

module _ {A : Type 0} (f : A → ℕ → A) where
  -- the first n, then the m after them
  pub run_join : (a : A) (n m i : ℕ) → run f a (n + m) i ≡ run f (run f a n i) m (i + n)
  unfolding run
  run_join a zero m i = ap (λ (k : ℕ). run f a k i) (zero-add m) ∙ ap (λ (k : ℕ). run f a m k) (sym (add-zero i))
  run_join a (suc n) m i =
      ap (λ (k : ℕ). run f a k i) (suc-add n m)
      ∙ run_join (f a i) n m (suc i)
      ∙ ap (λ (k : ℕ). run f (run f (f a i) n (suc i)) m k) (suc-add i n ∙ sym (add-suc i n))

  -- one more at the end
  pub run_last : (a : A) (n i : ℕ) → run f a (n + 1) i ≡ f (run f a n i) (i + n)
  unfolding run
  run_last a n i = run_join a n 1 i
