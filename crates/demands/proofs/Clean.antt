-- A refusal of number 0 is no refusal at all: place and inner number are 0
-- too, in all of opening's tests and in all of reopening's tests 17 to 27.
-- Assumes nothing.
use Prim.Native.Nat.{ℕ, suc}
use mathlib.Core.Path.{◌≡◌, refl}
use mathlib.Core.Bool.{true}
use mathlib.Core.List.{List, [], ◌∷◌}
use Rattle.puzzle.specs.declared.Refusal.{Refusal}
use Rattle.puzzle.specs.declared.Given.{Given}
use Rattle.puzzle.specs.Refusals.{accepted, is_accepted, or_else, first_refused}
use Rattle.puzzle.specs.Vouch.{nothing_left, solution_digit, solution_conflict, given_matches, givens_match, vouch, well_posed}
use Rattle.puzzle.proofs.Accepted.{or_else_of, or_else_left, or_else_right}
use Rattle.record.specs.Scan.{malformed, parts_of_bytes}
use Rattle.record.specs.Reopen.{oversized, miscounted, unreadable}

abbrev Clean : Refusal → Type 0
Clean r = is_accepted r ≡ true → r ≡ accepted

clean_or : (a b : Refusal) → Clean b → Clean (or_else a b)
clean_or a b q h = or_else_of a b (or_else_left a b h) (q (or_else_right a b h))

clean_givens : (solution : List ℕ) (gs : List Given) (i : ℕ) → Clean (givens_match solution gs i)
unfolding givens_match
clean_givens solution [] i h = refl
clean_givens solution (g ∷ gs) i h = clean_or (given_matches solution g i) (givens_match solution gs (suc i)) (clean_givens solution gs (suc i)) h

-- 22 to 27
clean_vouch : (gs : List Given) (solution : List ℕ) → Clean (vouch gs solution)
unfolding vouch
clean_vouch gs solution h =
    clean_or (nothing_left gs) _
    (clean_or (first_refused (solution_digit solution) 81 1) _ (clean_or (first_refused (solution_conflict solution) 81 1) _ (clean_givens solution gs 1)))
    h

-- 19, and 22 to 27
pub clean_posed : (gs : List Given) (solution : List ℕ) → is_accepted (well_posed gs solution) ≡ true → well_posed gs solution ≡ accepted
unfolding well_posed
clean_posed gs solution h = clean_or _ _ (clean_vouch gs solution) h

-- 17 to 27
pub clean_unreadable : (bytes solution : List ℕ) → is_accepted (unreadable bytes solution) ≡ true → unreadable bytes solution ≡ accepted
unfolding unreadable
clean_unreadable bytes solution h =
    clean_or (malformed bytes) _
    (clean_or (oversized (parts_of_bytes bytes)) _
    (clean_or _ _ (clean_or (miscounted (parts_of_bytes bytes)) _ (clean_vouch (parts_of_bytes bytes).givens solution))))
    h
