-- Counting by a value: the laws that make nine different digits in nine places each digit once.
-- A walk is counted as a whole, or value by value: both give the same sum
-- (`count_by_value`). A test that no two numbers pass is counted at most once, and the
-- other way round. Sums of parts of at most 1 are full exactly where each part is 1.
-- Assumes nothing.
use Prim.Native.Nat.{ℕ, zero, suc, ◌+◌, ◌≤◌, ◌<◌}
use mathlib.Core.Path.{◌≡◌, refl, sym, ap, subst, ◌∙◌}
use mathlib.Core.Bool.{Bool, true, false}
use native.Mathlib.Omega.{arith}
use borrow.Author.Tests.{leb-true, leb-false, eq-eqb, ne_eqb}
use lib.Dec.{leb, eqb}
use Rattle.sudoku.specs.Tests.{both, bit, count}
use Rattle.sudoku.proofs.Walks.{by_test, from_here, both_second, both_false_right, both_comm, count_some}

-- ---- a test that none, or one, of the numbers passes

pub count_zero : (f : ℕ → Bool) (n i : ℕ) → ((k : ℕ) → i ≤ k → k < i + n → f k ≡ false) → count f n i ≡ 0
unfolding count bit
count_zero f zero i h = refl
count_zero f (suc n) i h =
    omega (arith, ap bit (h i (omega arith) (omega arith)), count_zero f n (suc i) (λ k l u. h k (omega arith) (omega arith)))

-- no two numbers pass: at most one is counted
pub count_apart : (f : ℕ → Bool) (n i : ℕ) → ((a b : ℕ) → i ≤ a → a < b → b < i + n → f a ≡ true → f b ≡ true → ⊥) → count f n i ≤ 1
unfolding count bit
count_apart f zero i h = omega arith
count_apart f (suc n) i h =
    by_test (f i)
    (λ t. omega
    (arith, ap bit t, count_zero f n (suc i) (λ k l u. by_test (f k) (λ s. absurd (h i k (omega arith) (omega arith) (omega arith) t s)) (λ s. s))))
    (λ t. omega (arith, ap bit t, count_apart f n (suc i) (λ a b l m u. h a b (omega arith) m (omega arith))))

-- at most one is counted: no two numbers pass
apart_count : (f : ℕ → Bool) (n i a b : ℕ) → count f n i ≤ 1 → i ≤ a → a < b → b < i + n → f a ≡ true → f b ≡ true → ⊥
unfolding count bit
apart_count f zero i a b h l m u p q = omega arith
apart_count f (suc n) i a b h l m u p q =
    from_here i a l
    (λ e. omega (arith, ap bit (subst (λ (k : ℕ). f k ≡ true) (sym e) p), count_some f n (suc i) b (omega arith) (omega arith) q))
    (λ w. apart_count f n (suc i) a b (omega arith) w m (omega arith) p q)

-- so two that pass are one
pub count_alone : (f : ℕ → Bool) (n i a b : ℕ) → count f n i ≤ 1 → i ≤ a → a < i + n → i ≤ b → b < i + n → f a ≡ true → f b ≡ true → a ≡ b
count_alone f n i a b h la ua lb ub p q =
    by_test (leb a b)
    (λ t. by_test (leb b a) (λ s. omega (arith, leb-true a b t, leb-true b a s))
    (λ s. absurd (apart_count f n i a b h la (leb-false b a s) ub p q)))
    (λ t. absurd (apart_count f n i b a h lb (leb-false a b t) ua q p))

-- ---- sums

-- the sum of g at the n numbers from i on
unfoldable pub total : (ℕ → ℕ) → ℕ → ℕ → ℕ
total g zero i = 0
total g (suc n) i = g i + total g n (suc i)

pub total_add : (g h : ℕ → ℕ) (n i : ℕ) → total (λ k. g k + h k) n i ≡ total g n i + total h n i
unfolding total
total_add g h zero i = refl
total_add g h (suc n) i = omega (arith, total_add g h n (suc i))

pub total_zero : (g : ℕ → ℕ) (n i : ℕ) → ((k : ℕ) → i ≤ k → k < i + n → g k ≡ 0) → total g n i ≡ 0
unfolding total
total_zero g zero i h = refl
total_zero g (suc n) i h =
    omega (arith, h i (omega arith) (omega arith), total_zero g n (suc i) (λ k l u. h k (omega arith) (omega arith)))

pub total_ones : (g : ℕ → ℕ) (n i : ℕ) → ((k : ℕ) → i ≤ k → k < i + n → g k ≡ 1) → total g n i ≡ n
unfolding total
total_ones g zero i h = refl
total_ones g (suc n) i h =
    omega (arith, h i (omega arith) (omega arith), total_ones g n (suc i) (λ k l u. h k (omega arith) (omega arith)))

pub total_le : (g : ℕ → ℕ) (n i : ℕ) → ((k : ℕ) → i ≤ k → k < i + n → g k ≤ 1) → total g n i ≤ n
unfolding total
total_le g zero i h = omega arith
total_le g (suc n) i h =
    omega (arith, h i (omega arith) (omega arith), total_le g n (suc i) (λ k l u. h k (omega arith) (omega arith)))

-- n parts of at most 1 that make n: each is 1
pub ones_total : (g : ℕ → ℕ) (n i k : ℕ) → ((j : ℕ) → i ≤ j → j < i + n → g j ≤ 1) → total g n i ≡ n → i ≤ k → k < i + n → g k ≡ 1
unfolding total
ones_total g zero i k h e l u = absurd (omega arith)
ones_total g (suc n) i k h e l u =
    from_here i k l
    (λ w. subst (λ (m : ℕ). g m ≡ 1) w
    (omega (arith, h i (omega arith) (omega arith), total_le g n (suc i) (λ j a b. h j (omega arith) (omega arith)))))
    (λ b. ones_total g n (suc i) k (λ j a c. h j (omega arith) (omega arith))
    (omega (arith, h i (omega arith) (omega arith), total_le g n (suc i) (λ j a c. h j (omega arith) (omega arith)))) b (omega arith))

-- ---- value by value

-- a count is the sum of what each number adds
count_total : (f : ℕ → Bool) (n i : ℕ) → count f n i ≡ total (λ k. bit (f k)) n i
unfolding count total
count_total f zero i = refl
count_total f (suc n) i = ap (λ (m : ℕ). bit (f i) + m) (count_total f n (suc i))

-- two counts together, where they add up number by number
pub count_pairs : (f g f' g' : ℕ → Bool) (n i : ℕ) → ((k : ℕ) → i ≤ k → k < i + n → bit (f k) + bit (g k) ≡ bit (f' k) + bit (g' k))
    → count f n i + count g n i ≡ count f' n i + count g' n i
unfolding count
count_pairs f g f' g' zero i h = refl
count_pairs f g f' g' (suc n) i h =
    omega (arith, h i (omega arith) (omega arith), count_pairs f g f' g' n (suc i) (λ k l u. h k (omega arith) (omega arith)))

-- one number is counted at its value x, and at no other
value_once : (t : Bool) (x n i : ℕ) → i ≤ x → x < i + n → total (λ d. bit (both t (eqb x d))) n i ≡ bit t
unfolding total bit
value_once t x zero i l u = absurd (omega arith)
value_once t x (suc n) i l u =
    from_here i x l
    (λ e. omega (
      arith,
      ap bit (here e),
      total_zero (λ d. bit (both t (eqb x d))) n (suc i) (λ d a b. ap bit (both_false_right t (eqb x d) (ne_eqb x d (λ w. omega arith)))),
    ))
    (λ b. omega (
      arith,
      ap bit (both_false_right t (eqb x i) (ne_eqb x i (λ w. omega arith))),
      value_once t x n (suc i) b (omega arith),
    ))
  where
    here : i ≡ x → both t (eqb x i) ≡ t
    here e = both_second t (eqb x i) (eq-eqb x i (sym e))

-- so of the numbers from i on x alone counts, where the test holds
pub count_value : (t : Bool) (x n i : ℕ) → i ≤ x → x < i + n → count (λ k. both (eqb x k) t) n i ≡ bit t
count_value t x n i l u =
    (λ j. count (λ k. both_comm (eqb x k) t j) n i)
    ∙ count_total (λ k. both t (eqb x k)) n i
    ∙ value_once t x n i l u

-- the numbers that pass u are counted value by value, where each value is below m
pub count_by_value : (u : ℕ → Bool) (v : ℕ → ℕ) (m n i : ℕ) → ((k : ℕ) → i ≤ k → k < i + n → v k < m)
    → count u n i ≡ total (λ d. count (λ k. both (u k) (eqb (v k) d)) n i) m 0
unfolding count
count_by_value u v m zero i h = sym (total_zero (λ d. 0) m 0 (λ k a b. refl))
count_by_value u v m (suc n) i h =
    omega (
      arith,
      value_once (u i) (v i) m 0 (omega arith) (omega (arith, h i (omega arith) (omega arith))),
      count_by_value u v m n (suc i) (λ k a b. h k (omega arith) (omega arith)),
      total_add (λ d. bit (both (u i) (eqb (v i) d))) (λ d. count (λ k. both (u k) (eqb (v k) d)) n (suc i)) m 0,
    )
