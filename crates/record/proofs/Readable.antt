-- What 17 to 27 ask of a record before any move is performed: the tests against what
-- they mean, both ways. And 17's place: one more than the items that stand before.
-- Assumes nothing.
use Prim.Native.Nat.{ℕ, suc, ◌+◌, ◌≤◌}
use mathlib.Core.Path.{◌≡◌, refl, sym, ap, ◌∙◌}
use mathlib.Core.Bool.{true, false, not}
use mathlib.Core.List.{List, [], ◌∷◌}
use native.Mathlib.Omega.{arith}
use borrow.Author.Tests.{leb-true, le-leb, ltb-false, le-ltb, eqb-true, eq-eqb, not-false}
use lib.Dec.{leb, ltb, eqb}
use lib.ListN.{length}
use Rattle.sudoku.specs.Tests.{pick}
use Rattle.sudoku.proofs.Walks.{by_test, not_both_ways, not_is_false, either_false, either_false_left, either_false_right, both_true, both_false_left, both_false_right, pick_true, pick_false}
use Rattle.sudoku.proofs.Each.{Each}
use Rattle.puzzle.specs.Refusals.{refusal, accepted, is_accepted, refused_if}
use Rattle.puzzle.specs.Givens.{ascending}
use Rattle.puzzle.proofs.Accepted.{accepts, if_not, if_passed, or_else_of, or_else_left, or_else_right, or_else_parts}
use Rattle.puzzle.proofs.Posed.{Vouched, vouched, vouches}
use Rattle.journal.specs.Limits.{max_moves, max_checks}
use Rattle.journal.specs.declared.Asked.{Asked}
use Rattle.record.specs.Items.{Parts}
use Rattle.record.specs.Scan.{Items, ended, cut, then, items_of_bytes, reached, may_stand, scan, malformed, parts_of_bytes}
use Rattle.record.specs.Reopen.{any_late, oversized, miscounted, unreadable}

-- ---- 17

-- how many items stand before the first that can't, or before the end
unfoldable pub standing : ℕ → Items → ℕ
standing phase ended = 0
standing phase cut = 0
standing phase (then i is) = pick (may_stand phase i) (suc (standing (reached i) is)) 0

scan_place : (phase n : ℕ) (is : Items) → is_accepted (scan phase n is) ≡ false → scan phase n is ≡ refusal 17 (n + standing phase is) 0
unfolding scan standing is_accepted
scan_place phase n ended h =
    by_test (eqb phase 2) (λ t. absurd (not_both_ways _ (accepts _ (pick_true _ _ _ t)) h))
    (λ t. pick_false _ _ _ t ∙ ap (λ (k : ℕ). refusal 17 k 0) (omega arith))
scan_place phase n cut h = ap (λ (k : ℕ). refusal 17 k 0) (omega arith)
scan_place phase n (then i is) h =
    by_test (may_stand phase i)
    (λ t.
    pick_true _ _ _ t
    ∙ scan_place (reached i) (suc n) is (sym (ap is_accepted (pick_true _ _ _ t)) ∙ h)
    ∙ ap (λ (k : ℕ). refusal 17 k 0) (omega (arith, pick_true (may_stand phase i) (suc (standing (reached i) is)) 0 t)))
    (λ t. pick_false _ _ _ t ∙ ap (λ (k : ℕ). refusal 17 k 0) (omega (arith, pick_false (may_stand phase i) (suc (standing (reached i) is)) 0 t)))

-- the place is the number of items before, plus one
pub malformed_place : (bytes : List ℕ) → is_accepted (malformed bytes) ≡ false → malformed bytes ≡ refusal 17 (1 + standing 0 (items_of_bytes bytes)) 0
unfolding malformed
malformed_place bytes h = scan_place 0 1 (items_of_bytes bytes) h

scan_accepted : (phase n : ℕ) (is : Items) → is_accepted (scan phase n is) ≡ true → scan phase n is ≡ accepted
unfolding scan is_accepted
scan_accepted phase n ended h =
    by_test (eqb phase 2) (λ t. pick_true _ _ _ t)
    (λ t. absurd (not_both_ways _ h (ap is_accepted (pick_false (eqb phase 2) accepted (refusal 17 n 0) t))))
scan_accepted phase n cut h = absurd (not_both_ways false h refl)
scan_accepted phase n (then i is) h =
    by_test (may_stand phase i) (λ t. pick_true _ _ _ t ∙ scan_accepted (reached i) (suc n) is (sym (ap is_accepted (pick_true _ _ _ t)) ∙ h))
    (λ t. absurd (not_both_ways _ h (ap is_accepted (pick_false (may_stand phase i) (scan (reached i) (suc n) is) (refusal 17 n 0) t))))

pub formed : (bytes : List ℕ) → is_accepted (malformed bytes) ≡ true → malformed bytes ≡ accepted
unfolding malformed
formed bytes h = scan_accepted 0 _ (items_of_bytes bytes) h

-- ---- 18

-- a check's standing is within the limit
abbrev pub InTime : Asked → Type 0
InTime c = c.standing ≤ max_moves

pub late_none : (cs : List Asked) → any_late cs ≡ false → Each InTime cs
unfolding any_late Each
late_none [] h = tt
late_none (c ∷ cs) h = (
  leb-true c.standing max_moves (not-false _ (either_false_left _ _ h)),
  late_none cs (either_false_right (not (leb c.standing max_moves)) _ h),
)

pub none_late : (cs : List Asked) → Each InTime cs → any_late cs ≡ false
unfolding any_late Each
none_late [] h = refl
none_late (c ∷ cs) h = either_false _ _ (not_is_false _ (le-leb c.standing max_moves h.0)) (none_late cs h.1)

-- ---- 18, 20, 21

pub record Sized (p : Parts) : Type 0 where
  pub moves : length p.moves ≤ max_moves
  pub checks : length p.checks ≤ max_checks
  pub in_time : Each InTime p.checks

pub record Counted (p : Parts) : Type 0 where
  pub undone : p.undone ≤ length p.moves
  pub asked : length p.moves ≡ 0 → length p.checks ≡ 0

module _ (p : Parts) where
  pub sized : is_accepted (oversized p) ≡ true → Sized p
  unfolding oversized is_accepted
  sized h =
      let t = if_passed _ (refusal 18 0 0) refl h in
      let u = either_false_right (not (leb (length p.moves) max_moves)) _ t in
      record {
        moves = leb-true _ _ (not-false _ (either_false_left _ _ t));
        checks = leb-true _ _ (not-false _ (either_false_left _ _ u));
        in_time = late_none p.checks (either_false_right (not (leb (length p.checks) max_checks)) _ u);
      }

  pub sized_of : Sized p → oversized p ≡ accepted
  unfolding oversized
  sized_of s =
      if_not _ (refusal 18 0 0)
      (either_false _ _ (not_is_false _ (le-leb _ _ s.moves))
      (either_false _ _ (not_is_false _ (le-leb _ _ s.checks)) (none_late p.checks s.in_time)))

  pub counted_of : Counted p → miscounted p ≡ accepted
  unfolding miscounted
  counted_of c =
      or_else_of _ _ (accepts _ (if_not _ (refusal 20 0 0) (le-ltb _ _ c.undone)))
      (if_not _ (refusal 21 0 0)
      (by_test (eqb (length p.moves) 0)
      (λ t. both_false_right _ _ (not_is_false _ (eq-eqb (length p.checks) 0 (c.asked (eqb-true (length p.moves) 0 t)))))
      (λ t. both_false_left _ _ t)))

  pub counted : is_accepted (miscounted p) ≡ true → Counted p
  unfolding miscounted is_accepted
  counted h =
      record {
        undone = ltb-false _ _ (if_passed _ (refusal 20 0 0) refl (or_else_left _ _ h));
        asked =
            λ e.
            by_test (eqb (length p.checks) 0) (λ t. eqb-true _ _ t)
            (λ t.
            absurd
            (not_both_ways _ (both_true _ _ (eq-eqb (length p.moves) 0 e) (ap not t))
            (if_passed _ (refusal 21 0 0) refl (or_else_right (refused_if (ltb (length p.moves) p.undone) (refusal 20 0 0)) _ h))));
      }

-- ---- 17 to 27

pub record Readable (bytes solution : List ℕ) : Type 0 where
  pub formed : malformed bytes ≡ accepted
  pub sized : Sized (parts_of_bytes bytes)
  pub ascend : ascending (parts_of_bytes bytes).givens ≡ true
  pub counted : Counted (parts_of_bytes bytes)
  pub vouched : Vouched (parts_of_bytes bytes).givens solution

module _ (bytes solution : List ℕ) where
  pub readable : unreadable bytes solution ≡ accepted → Readable bytes solution
  unfolding unreadable is_accepted
  readable h =
      let p = parts_of_bytes bytes in
      let a = or_else_parts (malformed bytes) _ h in
      let b = or_else_parts (oversized p) _ a.1 in
      let c = or_else_parts (refused_if (not (ascending p.givens)) (refusal 19 0 0)) _ b.1 in
      let d = or_else_parts (miscounted p) _ c.1 in
      record {
        formed = formed bytes a.0;
        sized = sized p b.0;
        ascend = not-false _ (if_passed _ (refusal 19 0 0) refl c.0);
        counted = counted p d.0;
        vouched = vouched p.givens solution d.1;
      }

  pub readable_of : Readable bytes solution → unreadable bytes solution ≡ accepted
  unfolding unreadable
  readable_of r =
      let p = parts_of_bytes bytes in
      or_else_of (malformed bytes) _ (accepts _ r.formed)
      (or_else_of (oversized p) _ (accepts _ (sized_of p r.sized))
      (or_else_of (refused_if (not (ascending p.givens)) (refusal 19 0 0)) _ (accepts _ (if_not _ (refusal 19 0 0) (not_is_false _ r.ascend)))
      (or_else_of (miscounted p) _ (accepts _ (counted_of p r.counted)) (vouches p.givens solution r.vouched))))
