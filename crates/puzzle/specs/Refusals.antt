-- Answers to a refused call: number, place, inner number; the last two are 0 where the documents say nothing of them.
-- Assumes nothing.
use Rattle.std.specs.Prelude.{ℕ, zero, suc, Bool, eqb, Result, Ok, Err, ⊤}
use Rattle.sudoku.specs.Tests.{pick}
use Rattle.puzzle.specs.declared.Refusal.{Refusal}

abbrev pub refusal : ℕ → ℕ → ℕ → Refusal
refusal number place inner = record { number = number; place = place; inner = inner }

-- nothing is refused
abbrev pub accepted : Refusal
accepted = refusal 0 0 0

-- what a test answers, as a refusal: nothing is refused where it is Ok
abbrev pub told : {T E : Type 0} → (E → Refusal) → Result T E → Refusal
told f (Ok _) = accepted
told f (Err e) = f e

unfoldable pub is_accepted : Refusal → Bool
is_accepted r = eqb r.number 0

-- an answer as a result: Ok where nothing is refused
unfoldable pub outcome : Refusal → Result ⊤ Refusal
outcome r = pick (is_accepted r) (Ok tt) (Err r)

-- refused where the test holds
unfoldable pub refused_if : Bool → Refusal → Refusal
refused_if t r = pick t r accepted

-- the first of the two that refuses
unfoldable pub or_else : Refusal → Refusal → Refusal
or_else a b = pick (is_accepted a) b a

-- what f says of the n numbers from i on: the first that is refused decides
unfoldable pub first_refused : (ℕ → Refusal) → ℕ → ℕ → Refusal
first_refused f zero i = accepted
first_refused f (suc n) i = or_else (f i) (first_refused f n (suc i))
