-- The laws of specs/Refusals: the first of two that refuses, and
-- what is left of a walk in which the first refused decides.
-- A loop counts i up to e, which it does not reach, as in the laws of walks.
-- Assumes nothing.
use Prim.Native.Nat.{ℕ, ◌+◌, ◌-◌, ◌≤◌, ◌<◌}
use mathlib.Core.Path.{◌≡◌, sym, ap, ◌∙◌}
use mathlib.Core.Bool.{Bool, true}
use native.Mathlib.Nat.{sub-eq-zero_of_le}
use native.Mathlib.Numerals.{add-one}
use native.Mathlib.Omega.{arith}
use borrow.Author.Tests.{eq-eqb, ne_eqb}
use Rattle.std.specs.Prelude.{Result}
use Rattle.std.specs.Result.{IsErrAnd}
use Rattle.std.proofs.lemmas.Result.{err_from_is_err_and}
use Rattle.sudoku.proofs.Walks.{pick_true, left_one}
use Rattle.puzzle.specs.declared.Refusal.{Refusal}
use Rattle.puzzle.specs.declared.error.WellPosedError.{WellPosedError}
use Rattle.puzzle.specs.declared.error.WellPosedError.TheVariants.{NotAscending, NothingLeftToPlay, SolutionNotFull, SolutionDigitOutOfRange, SolutionConflict, GivenOffGrid, GivenMismatch}
use Rattle.puzzle.specs.Errors.{well_posed_refusal}
use Rattle.puzzle.specs.Refusals.{accepted, told, is_accepted, refused_if, or_else, first_refused}
use Rattle.puzzle.proofs.Accepted.{or_else_first, or_else_next}

-- refused where the test holds
pub refused_if_lem : (t : Bool) (r : Refusal) → t ≡ true → refused_if t r ≡ r
unfolding refused_if
refused_if_lem t r p = pick_true t r accepted p

module _ (a b : Refusal) where
  -- by the number of the first: it refuses, or it accepts
  pub or_else_refused : (a.number ≡ 0 → ⊥) → or_else a b ≡ a
  unfolding is_accepted
  or_else_refused h = or_else_first a b (ne_eqb a.number 0 h)

  pub or_else_passed : a.number ≡ 0 → or_else a b ≡ b
  unfolding is_accepted
  or_else_passed h = or_else_next a b (eq-eqb a.number 0 h)

-- the first is known
pub or_else_by : (a b r : Refusal) → a ≡ r → (r.number ≡ 0 → ⊥) → or_else a b ≡ r
or_else_by a b r e h = ap (λ (x : Refusal). or_else x b) e ∙ or_else_refused r b h

pub or_else_past : (a b : Refusal) → a ≡ accepted → or_else a b ≡ b
or_else_past a b e = or_else_passed a b (ap (λ (x : Refusal). x.number) e)

module _ (f : ℕ → Refusal) (e i : ℕ) where
  pub walk_step : i < e → first_refused f (e - i) i ≡ or_else (f i) (first_refused f (e - (i + 1)) (i + 1))
  unfolding first_refused
  walk_step h =
      ap (λ (n : ℕ). first_refused f n i) (left_one e i h)
      ∙ ap (λ (k : ℕ). or_else (f i) (first_refused f (e - (i + 1)) k)) (sym (add-one i))

  -- the loop's `if r.number != 0 { return r; }`, taken and not
  pub walk_refused : (r : Refusal) → i < e → r ≡ f i → (r.number ≡ 0 → ⊥) → first_refused f (e - i) i ≡ r
  walk_refused r h q n = walk_step h ∙ or_else_by (f i) (first_refused f (e - (i + 1)) (i + 1)) r (sym q) n

  pub walk_more : (r : Refusal) → i < e → r ≡ f i → r.number ≡ 0 → first_refused f (e - i) i ≡ first_refused f (e - (i + 1)) (i + 1)
  walk_more r h q n =
      walk_step h ∙ or_else_passed (f i) (first_refused f (e - (i + 1)) (i + 1)) (ap (λ (x : Refusal). x.number) (sym q) ∙ n)

  pub walk_all : e ≤ i → first_refused f (e - i) i ≡ accepted
  unfolding first_refused
  walk_all h = ap (λ (n : ℕ). first_refused f n i) (sub-eq-zero_of_le h)

-- ---- what tests answer

-- an error is told as a refusal
pub refuses : (e : WellPosedError) → (well_posed_refusal e).number ≡ 0 → ⊥
refuses NotAscending h = omega (arith, h)
refuses NothingLeftToPlay h = omega (arith, h)
refuses (SolutionNotFull cell) h = omega (arith, h)
refuses (SolutionDigitOutOfRange cell) h = omega (arith, h)
refuses (SolutionConflict cell peer) h = omega (arith, h)
refuses (GivenOffGrid index) h = omega (arith, h)
refuses (GivenMismatch index) h = omega (arith, h)

-- what leaves by a `?` is the error of the call
pub told_by : {T : Type 0} (outcome : Result T WellPosedError) (e : WellPosedError) (r : Refusal)
    → IsErrAnd outcome (λ x. x ≡ e) → well_posed_refusal e ≡ r → told well_posed_refusal outcome ≡ r
told_by outcome e r p q = let x = err_from_is_err_and outcome p in rw (x.1, x.2) q

-- the first refuses by an error
pub or_else_error : (a b : Refusal) (e : WellPosedError) → well_posed_refusal e ≡ a → well_posed_refusal e ≡ or_else a b
or_else_error a b e h = sym (or_else_by a b (well_posed_refusal e) (sym h) (refuses e))
