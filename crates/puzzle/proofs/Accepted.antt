-- What follows where nothing is refused: of a test, of the first of two refusals,
-- and of a walk; and that nothing is refused where each part is accepted.
-- Assumes nothing.
use Prim.Native.Nat.{ℕ, zero, suc, ◌+◌, ◌≤◌, ◌<◌}
use mathlib.Core.Path.{◌≡◌, refl, sym, ap, subst, ◌∙◌}
use mathlib.Core.Bool.{Bool, true, false}
use native.Mathlib.Omega.{arith}
use Rattle.sudoku.specs.Tests.{pick}
use Rattle.sudoku.proofs.Walks.{by_test, not_both_ways, from_here, pick_true, pick_false}
use Rattle.puzzle.specs.declared.Refusal.{Refusal}
use Rattle.puzzle.specs.Refusals.{accepted, is_accepted, refused_if, or_else, first_refused}

pub accepts : (r : Refusal) → r ≡ accepted → is_accepted r ≡ true
unfolding is_accepted
accepts r h = ap is_accepted h

-- ---- one test

pub if_not : (t : Bool) (r : Refusal) → t ≡ false → refused_if t r ≡ accepted
unfolding refused_if
if_not t r h = pick_false t r accepted h

pub if_passed : (t : Bool) (r : Refusal) → is_accepted r ≡ false → is_accepted (refused_if t r) ≡ true → t ≡ false
unfolding refused_if pick
if_passed true r n h = absurd (not_both_ways (is_accepted r) h n)
if_passed false r n h = refl

-- ---- one after the other

module _ (a b : Refusal) where
  pub or_else_next : is_accepted a ≡ true → or_else a b ≡ b
  unfolding or_else
  or_else_next h = pick_true (is_accepted a) b a h

  pub or_else_first : is_accepted a ≡ false → or_else a b ≡ a
  unfolding or_else
  or_else_first h = pick_false (is_accepted a) b a h

  pub or_else_of : is_accepted a ≡ true → b ≡ accepted → or_else a b ≡ accepted
  or_else_of h g = or_else_next h ∙ g

  pub or_else_left : is_accepted (or_else a b) ≡ true → is_accepted a ≡ true
  or_else_left h =
      by_test (is_accepted a) (λ t. t)
      (λ t. absurd (not_both_ways (is_accepted a) (sym (ap is_accepted (or_else_first t)) ∙ h) t))

  pub or_else_right : is_accepted (or_else a b) ≡ true → is_accepted b ≡ true
  or_else_right h = sym (ap is_accepted (or_else_next (or_else_left h))) ∙ h

  -- the same where the whole answer is `accepted`
  pub or_else_parts : or_else a b ≡ accepted → (is_accepted a ≡ true) × (b ≡ accepted)
  or_else_parts h =
      let t : is_accepted a ≡ true = or_else_left (accepts (or_else a b) h) in
      (t, sym (or_else_next t) ∙ h)

-- ---- a walk

pub first_of : (f : ℕ → Refusal) (n i : ℕ) → ((k : ℕ) → i ≤ k → k < i + n → is_accepted (f k) ≡ true) → first_refused f n i ≡ accepted
unfolding first_refused
first_of f zero i h = refl
first_of f (suc n) i h =
    or_else_of (f i) (first_refused f n (suc i)) (h i (omega arith) (omega arith))
    (first_of f n (suc i) (λ k l u. h k (omega arith) (omega arith)))

pub first_at : (f : ℕ → Refusal) (n i : ℕ) → is_accepted (first_refused f n i) ≡ true → (k : ℕ) → i ≤ k → k < i + n → is_accepted (f k) ≡ true
unfolding first_refused
first_at f zero i h k l u = absurd (omega arith)
first_at f (suc n) i h k l u =
    from_here i k l (λ e. subst (λ (m : ℕ). is_accepted (f m) ≡ true) e (or_else_left (f i) (first_refused f n (suc i)) h))
    (λ b. first_at f n (suc i) (or_else_right (f i) (first_refused f n (suc i)) h) k b (omega arith))
