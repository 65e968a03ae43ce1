-- The laws of the journal's two counts: each of the three steps where it acts and where it
-- changes nothing, that taking back and retaking undo each other, and the bounds that they keep.
-- Assumes nothing.
use Prim.Native.Nat.{ℕ, ◌+◌, ◌-◌, ◌≤◌, ◌<◌, min}
use mathlib.Core.Path.{◌≡◌, ap, ◌∙◌}
use native.Mathlib.Omega.{arith}
use borrow.Author.Tests.{le-leb, lt-leb, eq-eqb, ne_eqb, leb-true, leb-false, eqb-true, eqb-false}
use lib.Dec.{leb, eqb}
use Rattle.sudoku.proofs.Walks.{by_test, pick_true, pick_false}
use Rattle.journal.specs.declared.Counts.{Counts}
use Rattle.journal.specs.Limits.{max_moves}
use Rattle.journal.specs.Counts.{counts, recorded, taken_back, retaken}

-- no more moves are made than the limit, and no more stand than are made
pub record Sound (c : Counts) : Type 0 where
  pub limit : c.made ≤ max_moves
  pub stands : c.standing ≤ c.made

module _ (c : Counts) where
  -- recording below the limit, where no more stand than are made: the moves after standing are dropped and one is added
  pub recorded_one : c.standing < max_moves → c.standing ≤ c.made → recorded c ≡ counts (c.standing + 1) (c.standing + 1)
  unfolding recorded
  recorded_one h u =
      pick_false (leb max_moves c.standing) c (counts (min c.made c.standing + 1) (min c.made c.standing + 1))
      (lt-leb max_moves c.standing h)
      ∙ ap (λ (n : ℕ). counts (n + 1) (n + 1)) {x = min c.made c.standing} {y = c.standing} (omega arith)

  -- and where more stand than are made, nothing is dropped
  pub recorded_beyond : c.standing < max_moves → c.made ≤ c.standing → recorded c ≡ counts (c.made + 1) (c.made + 1)
  unfolding recorded
  recorded_beyond h u =
      pick_false (leb max_moves c.standing) c (counts (min c.made c.standing + 1) (min c.made c.standing + 1))
      (lt-leb max_moves c.standing h)
      ∙ ap (λ (n : ℕ). counts (n + 1) (n + 1)) {x = min c.made c.standing} {y = c.made} (omega arith)

  -- at the limit it changes nothing
  pub recorded_full : max_moves ≤ c.standing → recorded c ≡ c
  unfolding recorded
  recorded_full h = pick_true _ c _ (le-leb max_moves c.standing h)

  pub taken_back_none : c.standing ≡ 0 → taken_back c ≡ c
  unfolding taken_back
  taken_back_none h = pick_true (eqb c.standing 0) c (counts c.made (c.standing - 1)) (eq-eqb c.standing 0 h)

  pub taken_back_one : 1 ≤ c.standing → taken_back c ≡ counts c.made (c.standing - 1)
  unfolding taken_back
  taken_back_one h = pick_false (eqb c.standing 0) c (counts c.made (c.standing - 1)) (ne_eqb c.standing 0 (λ e. omega arith))

  pub retaken_none : c.made ≤ c.standing → retaken c ≡ c
  unfolding retaken
  retaken_none h = pick_true (leb c.made c.standing) c (counts c.made (c.standing + 1)) (le-leb c.made c.standing h)

  pub retaken_one : c.standing < c.made → retaken c ≡ counts c.made (c.standing + 1)
  unfolding retaken
  retaken_one h = pick_false (leb c.made c.standing) c (counts c.made (c.standing + 1)) (lt-leb c.made c.standing h)

-- each step keeps the bounds
module _ (c : Counts) (s : Sound c) where
  pub sound_recorded : Sound (recorded c)
  sound_recorded =
      by_test (leb max_moves c.standing) (λ t. rw (recorded_full c (leb-true max_moves c.standing t)) s)
      (λ t.
      let h : c.standing < max_moves = leb-false max_moves c.standing t in
      rw (recorded_one c h s.stands) (record { limit = omega arith; stands = omega arith }))

  pub sound_taken_back : Sound (taken_back c)
  sound_taken_back =
      by_test (eqb c.standing 0) (λ t. rw (taken_back_none c (eqb-true c.standing 0 t)) s)
      (λ t.
      let h : c.standing ≡ 0 → ⊥ = eqb-false c.standing 0 t in
      rw (taken_back_one c (omega arith)) (record { limit = s.limit; stands = omega (arith, s.stands) }))

  pub sound_retaken : Sound (retaken c)
  sound_retaken =
      by_test (leb c.made c.standing) (λ t. rw (retaken_none c (leb-true c.made c.standing t)) s)
      (λ t.
      let h : c.standing < c.made = leb-false c.made c.standing t in
      rw (retaken_one c h) (record { limit = s.limit; stands = omega arith }))
