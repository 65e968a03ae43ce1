-- The laws of a note and its marks, for any note and any digits: writing and striking undo each other, change one mark
-- only, change nothing where there is nothing to do, and keep a note a note; and a note is no more than its marks.
-- Assumes nothing.
use mathlib.Core.Path.{◌≡◌, refl, sym, ap, ◌∙◌}
use mathlib.Core.Logic.{◌≢◌}
use mathlib.Core.Bool.{true, false, not}
use Prim.Native.Nat.{ℕ, zero, suc, ◌+◌, ◌-◌, ◌*◌, ◌/◌, ◌%◌, ◌^◌, ◌≤◌, ◌<◌}
use native.Mathlib.Nat.{sub-add_cancel, div-one, zero-div, zero-mul, add-zero, add_comm, pow-suc}
use native.Mathlib.Numerals.{add-one}
use native.Mathlib.Omega.{arith}
use lib.Bits.{bit_and, bit_or, and_high, and_zero_r, or_add_and}
use lib.Dec.{eqb}
use lib.Pow.{pow_pos}
use borrow.Author.Tests.{ltb-true, lt-ltb, eq-eqb, ne_eqb, eqb-true, eqb-false}
use Rattle.std.proofs.lemmas.Nat.Bits.{same_from_bits_below}
use Rattle.sudoku.specs.Tests.{pick, both, either, bit, count}
use Rattle.sudoku.proofs.Walks.{by_test, pick_true, pick_false, length_among, count_le, both_left, both_right, both_second, both_false_right, either_first, either_right}
use Rattle.sudoku.specs.Grid.{in_range}
use Rattle.sudoku.proofs.Grid.{range_from, range_to, in_range_lem}
use Rattle.note.specs.Note.{contains, with_mark, without, is_note, power_of, len_of, marks}
use Rattle.note.proofs.Bits.{power_le, bit_added, bit_removed, bit_added_other, bit_removed_other, added_fits}

-- ---- what the tests say in numbers

module _ (n d : ℕ) where
  -- a mark that stands is a digit, and its bit is 1
  pub contains_digit : contains n d ≡ true → in_range d ≡ true
  unfolding contains
  contains_digit h = both_left _ _ h

  pub contains_bit : contains n d ≡ true → n / 2 ^ d % 2 ≡ 1
  unfolding contains
  contains_bit h = eqb-true _ _ (both_right _ _ h)

  -- a digit whose bit is 1 stands, and one that does not stand has bit 0
  pub bit_contains : in_range d ≡ true → contains n d ≡ eqb (n / 2 ^ d % 2) 1
  unfolding contains both
  bit_contains r = rw r

  pub absent_bit : in_range d ≡ true → contains n d ≡ false → n / 2 ^ d % 2 ≡ 0
  absent_bit r h = let ne : n / 2 ^ d % 2 ≢ 1 = eqb-false _ _ (sym (bit_contains r) ∙ h) in omega arith

  no_digit : in_range d ≡ false → contains n d ≡ false
  unfolding contains both
  no_digit r = rw r

  -- ---- no change where there is nothing to do

  pub with_there : contains n d ≡ true → with_mark n d ≡ n
  unfolding with_mark pick
  with_there h = rw h

  pub without_absent : contains n d ≡ false → without n d ≡ n
  unfolding without pick
  without_absent h = rw h

  pub with_no_digit : in_range d ≡ false → with_mark n d ≡ n
  unfolding with_mark pick
  with_no_digit r = rw (no_digit r, r)

  -- ---- and else 2 ^ d comes or goes

  pub with_new : in_range d ≡ true → contains n d ≡ false → with_mark n d ≡ n + 2 ^ d
  unfolding with_mark pick
  with_new r h = rw (h, r)

  pub without_there : contains n d ≡ true → without n d ≡ n - 2 ^ d
  unfolding without pick
  without_there h = rw h

-- ---- the same by the mark's value, which is 0 for what is no digit

pub power_digit : (d : ℕ) → in_range d ≡ true → power_of d ≡ 2 ^ d
unfolding power_of
power_digit d r = pick_true _ _ _ r

pub power_no_digit : (d : ℕ) → in_range d ≡ false → power_of d ≡ 0
unfolding power_of
power_no_digit d r = pick_false _ _ _ r

pub with_absent : (n d : ℕ) → contains n d ≡ false → with_mark n d ≡ n + power_of d
with_absent n d h =
    by_test (in_range d) (λ r. rw (power_digit d r) (with_new n d r h))
    (λ r. rw (power_no_digit d r, add-zero) (with_no_digit n d r))

pub without_power : (n d : ℕ) → contains n d ≡ true → without n d ≡ n - power_of d
without_power n d h = rw (power_digit d (contains_digit n d h)) (without_there n d h)

-- a number taken no or one time
pub times_le : (x b : ℕ) → b ≤ 1 → x * b ≤ x
times_le x zero h = omega arith
times_le x (suc zero) h = omega arith
times_le x (suc (suc b)) h = absurd (omega arith)

-- each way that writing or striking goes: a property of the note after it holds if it holds in each
with_cases : (n d : ℕ) (P : ℕ → Type 0) → P n → (in_range d ≡ true → n / 2 ^ d % 2 ≡ 0 → P (n + 2 ^ d)) → P (with_mark n d)
with_cases n d P same new =
    by_test (contains n d) (λ h. rw (with_there n d h) same)
    (λ h. by_test (in_range d) (λ r. rw (with_new n d r h) (new r (absent_bit n d r h))) (λ r. rw (with_no_digit n d r) same))

without_cases : (n d : ℕ) (P : ℕ → Type 0) → P n → (in_range d ≡ true → n / 2 ^ d % 2 ≡ 1 → P (n - 2 ^ d)) → P (without n d)
without_cases n d P same new =
    by_test (contains n d) (λ h. rw (without_there n d h) (new (contains_digit n d h) (contains_bit n d h)))
    (λ h. rw (without_absent n d h) same)

-- ---- the mark itself

pub contains_without : (n d : ℕ) → contains (without n d) d ≡ false
contains_without n d =
    by_test (contains n d)
    (λ h. rw (without_there n d h, bit_contains (n - 2 ^ d) d (contains_digit n d h), bit_removed n d (contains_bit n d h)))
    (λ h. rw (without_absent n d h) h)

pub contains_with : (n d : ℕ) → contains (with_mark n d) d ≡ in_range d
contains_with n d =
    by_test (contains n d) (λ h. rw (with_there n d h) (h ∙ sym (contains_digit n d h)))
    (λ h.
    by_test (in_range d)
    (λ r. rw (with_new n d r h, bit_contains (n + 2 ^ d) d r, bit_added n d (absent_bit n d r h)) (sym r))
    (λ r. rw (with_no_digit n d r) (h ∙ sym r)))

-- ---- writing and striking undo each other

pub write_strike : (n d : ℕ) → contains n d ≡ true → with_mark (without n d) d ≡ n
write_strike n d h =
    with_new (without n d) d (contains_digit n d h) (contains_without n d)
    ∙ rw (without_there n d h) (sub-add_cancel (power_le n d (contains_bit n d h)))

pub strike_write : (n d : ℕ) → in_range d ≡ true → contains n d ≡ false → without (with_mark n d) d ≡ n
strike_write n d r h =
    without_there (with_mark n d) d (contains_with n d ∙ r) ∙ rw (with_new n d r h) (omega arith)

-- ---- every other mark stays

pub with_other : (n d e : ℕ) → d ≢ e → contains (with_mark n d) e ≡ contains n e
unfolding contains
with_other n d e ne =
    with_cases n d (λ (m : ℕ). contains m e ≡ contains n e) refl (λ r h. rw (bit_added_other n d e ne h))

pub without_other : (n d e : ℕ) → d ≢ e → contains (without n d) e ≡ contains n e
unfolding contains
without_other n d e ne =
    without_cases n d (λ (m : ℕ). contains m e ≡ contains n e) refl (λ r h. rw (bit_removed_other n d e ne h))

-- any mark after one is struck, or written
pub contains_struck : (n d e : ℕ) → contains (without n d) e ≡ both (contains n e) (not (eqb e d))
contains_struck n d e =
    by_test (eqb e d)
    (λ t. rw (eqb-true e d t) (contains_without n d ∙ sym (both_false_right (contains n d) (not (eqb d d)) (ap not (eq-eqb d d refl)))))
    (λ t. without_other n d e (λ h. eqb-false e d t (sym h)) ∙ sym (both_second (contains n e) (not (eqb e d)) (ap not t)))

pub contains_written : (n d e : ℕ) → in_range d ≡ true → contains (with_mark n d) e ≡ either (contains n e) (eqb e d)
contains_written n d e r =
    by_test (eqb e d)
    (λ t. rw (eqb-true e d t) (contains_with n d ∙ r ∙ sym (either_right (contains n d) (eqb d d) (eq-eqb d d refl))))
    (λ t. with_other n d e (λ h. eqb-false e d t (sym h)) ∙ sym (either_first (contains n e) (eqb e d) t))

-- ---- notes stay notes

module _ (n : ℕ) (h : is_note n ≡ true) where
  pub is_note_even : n % 2 ≡ 0
  unfolding is_note
  is_note_even = eqb-true _ _ (both_left _ _ h)

  pub is_note_small : n < 1024
  unfolding is_note
  is_note_small = ltb-true _ _ (both_right _ _ h)

pub note_of : (n : ℕ) → n % 2 ≡ 0 → n < 1024 → is_note n ≡ true
unfolding is_note both
note_of n e l = rw (e, lt-ltb _ _ l)

pub is_note_with : (n d : ℕ) → is_note n ≡ true → is_note (with_mark n d) ≡ true
is_note_with n d h =
    with_cases n d (λ (m : ℕ). is_note m ≡ true) h
    (λ r a. note_of (n + 2 ^ d) (even r a) (added_fits 10 n d (omega (arith, range_to d r)) (is_note_small n h) a))
  where
    even : in_range d ≡ true → n / 2 ^ d % 2 ≡ 0 → (n + 2 ^ d) % 2 ≡ 0
    even r a =
        rw (div-one (n + 2 ^ d), div-one n, is_note_even n h) at (bit_added_other n d 0 (omega (arith, range_from d r)) a)

pub is_note_without : (n d : ℕ) → is_note n ≡ true → is_note (without n d) ≡ true
is_note_without n d h =
    without_cases n d (λ (m : ℕ). is_note m ≡ true) h
    (λ r a. note_of (n - 2 ^ d) (even r a) (omega (arith, is_note_small n h)))
  where
    even : in_range d ≡ true → n / 2 ^ d % 2 ≡ 1 → (n - 2 ^ d) % 2 ≡ 0
    even r a =
        rw (div-one (n - 2 ^ d), div-one n, is_note_even n h) at (bit_removed_other n d 0 (omega (arith, range_from d r)) a)

pub is_note_zero : is_note 0 ≡ true
unfolding is_note both
is_note_zero = refl

pub contains_zero : (d : ℕ) → contains 0 d ≡ false
unfolding contains
contains_zero d = both_false_right (in_range d) _ (rw (zero-div (2 ^ d)))

-- ---- the marks together

-- a mark counts as its bit
pub bit_of : (n d : ℕ) → in_range d ≡ true → bit (contains n d) ≡ n / 2 ^ d % 2
unfolding bit
bit_of n d r = by_test (contains n d) (λ h. rw h (sym (contains_bit n d h))) (λ h. rw h (sym (absent_bit n d r h)))

pub len_count : (n : ℕ) → len_of n ≡ count (contains n) 9 1
unfolding len_of marks
len_count n = length_among (contains n) 9 1

pub len_le : (n : ℕ) → len_of n ≤ 9
len_le n = rw (len_count n) (count_le (contains n) 9 1)

-- ---- the same by the operations on words: a note and the mark's value have the mark in common or nothing

power_alone : (k : ℕ) → 2 ^ k ≡ 2 ^ (1 + k) - 2 ^ k
power_alone k = let e : 2 ^ (1 + k) ≡ 2 ^ k * 2 = ap (λ (x : ℕ). 2 ^ x) (add_comm 1 k ∙ add-one k) ∙ pow-suc 2 k in omega arith

and_digit : (n d : ℕ) → in_range d ≡ true → bit_and n (power_of d) ≡ n / 2 ^ d % 2 * 2 ^ d
and_digit n d r = rw (power_digit d r) (ap (bit_and n) (power_alone d) ∙ and_high n 1 d)

and_there : (n d : ℕ) → contains n d ≡ true → bit_and n (power_of d) ≡ power_of d
and_there n d h = let r = contains_digit n d h in and_digit n d r ∙ rw (contains_bit n d h, power_digit d r) (omega arith)

and_absent : (n d : ℕ) → contains n d ≡ false → bit_and n (power_of d) ≡ 0
and_absent n d h =
    by_test (in_range d) (λ r. and_digit n d r ∙ rw (absent_bit n d r h) (zero-mul (2 ^ d))) (λ r. rw (power_no_digit d r) (and_zero_r n))

power_some : (d : ℕ) → in_range d ≡ true → 0 < power_of d
power_some d r = rw (power_digit d r) (pow_pos d)

pub power_tests : (n d : ℕ) → not (eqb (bit_and n (power_of d)) 0) ≡ contains n d
power_tests n d =
    by_test (contains n d)
    (λ h. rw (and_there n d h, h) (ap not (ne_eqb (power_of d) 0 (λ e. omega (arith, e, power_some d (contains_digit n d h))))))
    (λ h. rw (and_absent n d h, h))

-- all of the mark's value is there where the mark is written, and of what is no digit nothing is missing
pub power_there : (n d : ℕ) → eqb (bit_and n (power_of d)) (power_of d) ≡ either (not (in_range d)) (contains n d)
unfolding either
power_there n d =
    by_test (contains n d)
    (λ h. rw (and_there n d h, h, contains_digit n d h) (eq-eqb (power_of d) (power_of d) refl))
    (λ h.
    by_test (in_range d) (λ r. rw (and_absent n d h, h, r) (ne_eqb 0 (power_of d) (λ e. omega (arith, e, power_some d r))))
    (λ r. rw (and_absent n d h, power_no_digit d r, r)))

pub or_power : (n d : ℕ) → bit_or n (power_of d) ≡ with_mark n d
or_power n d =
    by_test (contains n d) (λ h. omega (arith, or_add_and n (power_of d), and_there n d h, with_there n d h))
    (λ h. omega (arith, or_add_and n (power_of d), and_absent n d h, with_absent n d h))

pub less_power : (n d : ℕ) → n - bit_and n (power_of d) ≡ without n d
less_power n d =
    by_test (contains n d) (λ h. omega (arith, and_there n d h, without_power n d h)) (λ h. omega (arith, and_absent n d h, without_absent n d h))

-- the value of a mark fits a word
pub power_below : (d : ℕ) → power_of d < 65536
power_below d =
    by_test (in_range d)
    (λ r.
    let e : 0 / 2 ^ d % 2 ≡ 0 = rw (zero-div (2 ^ d)) in
    omega (arith, power_digit d r, added_fits 16 0 d (omega (arith, range_to d r)) (omega arith) e))
    (λ r. rw (power_no_digit d r) (omega arith))

-- ---- a note is no more than its marks

same_bit : (x y : ℕ) → eqb (x % 2) 1 ≡ eqb (y % 2) 1 → x % 2 ≡ y % 2
same_bit x y h =
    by_test (eqb (y % 2) 1) (λ e. eqb-true (x % 2) 1 (h ∙ e) ∙ sym (eqb-true (y % 2) 1 e))
    (λ e. omega (arith, eqb-false (x % 2) 1 (h ∙ e), eqb-false (y % 2) 1 e))

pub same_marks : (n m : ℕ) → is_note n ≡ true → is_note m ≡ true → ((d : ℕ) → in_range d ≡ true → contains n d ≡ contains m d) → n ≡ m
same_marks n m hn hm h = same_from_bits_below 10 n m (is_note_small n hn) (is_note_small m hm) by
  where
    by : (d : ℕ) → d < 10 → n / 2 ^ d % 2 ≡ m / 2 ^ d % 2
    by zero l = rw (div-one n, div-one m) (is_note_even n hn ∙ sym (is_note_even m hm))
    by (suc d) l =
        let r : in_range (suc d) ≡ true = in_range_lem (suc d) (omega arith) (omega arith) in
        same_bit _ _ (rw (bit_contains n (suc d) r, bit_contains m (suc d) r) at (h (suc d) r))
