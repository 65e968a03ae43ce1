-- An array made by calls at its indices: where the calls leave the closure as it was and give the values of f, it is
-- the list of them.
-- Assumes nothing.
use Prim.Native.Nat.{ℕ, zero, suc, ◌+◌, ◌≤◌, ◌<◌}
use mathlib.Core.Path.{◌≡◌, sym, ap, subst, ◌∙◌}
use mathlib.Core.List.{List}
use native.Mathlib.Omega.{arith}
use lib.ListN.{get_or}
use denote.Param.Members.{Mut, Called}
use Rattle.std.specs.Array.{IsFromFnResult, IsFromFnResultFrom}
use Rattle.std.proofs.lemmas.List.{same_lists}
use Rattle.sudoku.specs.Tests.{listed}
use Rattle.sudoku.proofs.Listed.{length_listed, listed_from}

module _ {F B : Type 0} {g : Mut F (ℕ × Unit {0}) B} (f : ℕ → B) (p : F) (m : ℕ) (h : (k : ℕ) (y : B) (q : F) → k < m → Called g p (k, tt) y q → (q ≡ p) × (y ≡ f k)) where
  entry : (ys : List B) (i n k : ℕ) (d : B) → IsFromFnResultFrom g p ys i n → i + n ≤ m → k < n → get_or ys (i + k) d ≡ f (i + k)
  entry ys i zero k d e u l = absurd (omega arith)
  entry ys i (suc n) zero d e u l = let s : i + 0 ≡ i = omega arith in rw s (e.2.1 d ∙ (h i e.1 e.0 (omega arith) e.3).1)
  entry ys i (suc n) (suc k) d e u l =
      let s : i + suc k ≡ (i + 1) + k = omega arith in
      rw s (entry ys (i + 1) n k d (subst (λ (q : F). IsFromFnResultFrom g q ys (i + 1) n) (h i e.1 e.0 (omega arith) e.3).0 e.4) (omega arith) (omega arith))

  pub made_listed : (ys : List B) → IsFromFnResult g p ys m → ys ≡ listed f m 0
  made_listed ys e =
      same_lists ys (listed f m 0) (e.long ∙ sym (length_listed f m 0))
      (λ k d l. ap (λ (j : ℕ). get_or ys j d) (omega arith) ∙ entry ys 0 m k d e.each (omega arith) (omega (arith, e.long)) ∙ ap f (omega arith) ∙ sym (listed_from f m k d (omega (arith, e.long))))
