-- A move that is shown: its slot has eight bytes, and where it begins in the journal is no large number.
-- Assumes nothing.
use Prim.Native.Nat.{ℕ}
use mathlib.Core.Path.{◌≡◌, sym, ap, ◌∙◌}
use mathlib.Core.List.{List}
use lib.ListN.{length}
use Rattle.std.specs.Prelude.{Result, Ok, Err, IfOk}
use Rattle.journal.specs.Limits.{slot_bytes}
use Rattle.board.specs.declared.error.PlayError.{PlayError}
use Rattle.board.specs.Errors.{number_told}

-- what holds of a part where its number is 0
pub where_shown : {P : Type 0} (now : P → List ℕ) (r : Result P PlayError) (n : ℕ) (slot : List ℕ) (Q : Type 0) → number_told r ≡ n → IfOk r (λ p. now p ≡ slot)
    → (n ≡ 0 → (length slot ≡ slot_bytes) × Q) → IfOk r (λ p. (length (now p) ≡ slot_bytes) × Q)
where_shown now (Ok p) n slot Q e h k = let q = k (sym e) in (ap length h ∙ q.0, q.1)
where_shown now (Err x) n slot Q e h k = tt
