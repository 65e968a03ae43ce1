-- The bits of a number, by arithmetic: bit d of n is `n / 2 ^ d % 2`. What adding 2 ^ d does where bit d is 0 and what
-- subtracting it does where bit d is 1, at any place and any width.
-- Assumes nothing.
use mathlib.Core.Path.{◌≡◌, sym, ap, ◌∙◌}
use mathlib.Core.Logic.{◌≢◌}
use Prim.Native.Nat.{ℕ, suc, ◌+◌, ◌-◌, ◌*◌, ◌/◌, ◌%◌, ◌^◌, ◌≤◌, ◌<◌}
use native.Mathlib.Nat.{mul_assoc, mul_comm, pow-suc, add-div_right, add-mul-div_left, div-div-eq-div-mul, div-lt_iff_lt-mul, div-eq_of_lt, add-sub_of_le, sub-add_cancel}
use native.Mathlib.Omega.{arith}
use lib.Dec.{ltb}
use lib.Pow.{pow_pos, pow-add}
use borrow.Author.Tests.{ltb-true, ltb-false}
use Rattle.sudoku.proofs.Walks.{by_test}

-- adding 2 ^ d raises what stands from bit d on by one
raised : (n d : ℕ) → (n + 2 ^ d) / 2 ^ d ≡ n / 2 ^ d + 1
raised n d = add-div_right n (pow_pos d)

-- a number whose bit d is 1 is at least 2 ^ d
pub power_le : (n d : ℕ) → n / 2 ^ d % 2 ≡ 1 → 2 ^ d ≤ n
power_le n d h =
    by_test (ltb n (2 ^ d)) (λ t. let z : n / 2 ^ d ≡ 0 = div-eq_of_lt (ltb-true _ _ t) in omega arith) (λ t. ltb-false _ _ t)

-- bit d itself: 2 ^ d added where it is 0, and subtracted where it is 1
pub bit_added : (n d : ℕ) → n / 2 ^ d % 2 ≡ 0 → (n + 2 ^ d) / 2 ^ d % 2 ≡ 1
bit_added n d h = omega (arith, raised n d)

pub bit_removed : (n d : ℕ) → n / 2 ^ d % 2 ≡ 1 → (n - 2 ^ d) / 2 ^ d % 2 ≡ 0
bit_removed n d h =
    let e : n / 2 ^ d ≡ (n - 2 ^ d) / 2 ^ d + 1 = rw (sub-add_cancel (power_le n d h)) at (raised (n - 2 ^ d) d) in
    omega arith

-- a power above place d, as so many pairs of the power at d
above : (d j : ℕ) → 2 ^ (suc d + j) ≡ 2 ^ d * (2 * 2 ^ j)
above d j = pow-add 2 (suc d) j ∙ ap (λ (x : ℕ). x * 2 ^ j) (pow-suc 2 d) ∙ mul_assoc (2 ^ d) 2 (2 ^ j)

from_above : (n d j : ℕ) → n / 2 ^ (suc d + j) ≡ n / 2 ^ d / 2 / 2 ^ j
from_above n d j = rw (above, ← div-div-eq-div-mul, ← div-div-eq-div-mul)

-- a lower bit does not see 2 ^ d, and a higher one neither, since nothing is carried
lower : (n e j : ℕ) → (n + 2 ^ (suc e + j)) / 2 ^ e % 2 ≡ n / 2 ^ e % 2
lower n e j = rw (above, add-mul-div_left n (2 * 2 ^ j) (pow_pos e)) (omega arith)

higher : (n d j : ℕ) → n / 2 ^ d % 2 ≡ 0 → (n + 2 ^ d) / 2 ^ (suc d + j) % 2 ≡ n / 2 ^ (suc d + j) % 2
higher n d j h =
    let e : (n + 2 ^ d) / 2 ^ d / 2 ≡ n / 2 ^ d / 2 = omega (arith, raised n d) in
    rw (from_above (n + 2 ^ d) d j, from_above n d j, e)

-- every other bit stays
pub bit_added_other : (n d e : ℕ) → d ≢ e → n / 2 ^ d % 2 ≡ 0 → (n + 2 ^ d) / 2 ^ e % 2 ≡ n / 2 ^ e % 2
bit_added_other n d e ne h =
    by_test (ltb d e) (λ t. rw (add-sub_of_le (ltb-true _ _ t)) at (higher n d (e - suc d) h))
    (λ t. let l : e < d = omega (arith, ltb-false d e t) in rw (add-sub_of_le l) at (lower n e (d - suc e)))

pub bit_removed_other : (n d e : ℕ) → d ≢ e → n / 2 ^ d % 2 ≡ 1 → (n - 2 ^ d) / 2 ^ e % 2 ≡ n / 2 ^ e % 2
bit_removed_other n d e ne h =
    sym (rw (sub-add_cancel (power_le n d h)) at (bit_added_other (n - 2 ^ d) d e ne (bit_removed n d h)))

-- no width is exceeded
pub added_fits : (w n d : ℕ) → d < w → n < 2 ^ w → n / 2 ^ d % 2 ≡ 0 → n + 2 ^ d < 2 ^ w
added_fits w n d l f h = rw (add-sub_of_le l) at (within (w - suc d) (rw (← add-sub_of_le l) at f))
  where
    within : (j : ℕ) → n < 2 ^ (suc d + j) → n + 2 ^ d < 2 ^ (suc d + j)
    within j g =
        let q : n / 2 ^ d < 2 * 2 ^ j = (div-lt_iff_lt-mul (pow_pos d)).1 (rw (above, mul_comm (2 ^ d)) at g) in
        rw (above, mul_comm (2 ^ d)) ((div-lt_iff_lt-mul (pow_pos d)).0 (rw (raised n d) (omega arith)))
