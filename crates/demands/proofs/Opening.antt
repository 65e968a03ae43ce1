-- What `Opens` says in the words of opening's tests, and so that they refuse nothing; what then holds
-- of the givens and of the fresh state; and that opening accepts exactly these and returns the fresh board.
-- Assumes nothing.
use Prim.Native.Nat.{ℕ, ◌%◌}
use mathlib.Core.Path.{◌≡◌, refl, sym, ap, ◌∙◌}
use mathlib.Core.Logic.{◌↔◌}
use mathlib.Core.Bool.{Bool, true, false, not}
use mathlib.Core.List.{List}
use borrow.Author.Tests.{eq-eqb, eqb-true, not-false}
use lib.Dec.{eqb}
use lib.ListN.{length}
use Rattle.sudoku.specs.Tests.{pick, both}
use Rattle.sudoku.specs.Grid.{is_cell, at}
use Rattle.sudoku.proofs.Walks.{by_test, not_both_ways, both_true, both_left, both_right, pick_true, pick_false}
use Rattle.sudoku.proofs.Each.{Each, each_at, each_of}
use Rattle.puzzle.specs.declared.Given.{Given}
use Rattle.puzzle.specs.declared.Refusal.{Refusal}
use Rattle.puzzle.specs.Refusals.{refusal, accepted, is_accepted, refused_if}
use Rattle.puzzle.specs.Givens.{given, triples, ascending, is_given}
use Rattle.puzzle.specs.Vouch.{vouch, well_posed}
use Rattle.puzzle.proofs.Accepted.{accepts, if_passed, or_else_parts}
use Rattle.puzzle.proofs.Order.{ascends_at, ascends_of}
use Rattle.puzzle.proofs.Givens.{OnGrid, Matches, Rising, marked, given_at_lem, given_digit, free_digit}
use Rattle.puzzle.proofs.Posed.{Vouched, vouched, posed, vouched_rising}
use Rattle.journal.specs.Limits.{journal_bytes, check_memory}
use Rattle.journal.specs.State.{opening, digit_at, note_at}
use Rattle.journal.proofs.Moves.{Fit, fit_opening, empty_note}
use Rattle.board.specs.Open.{Opened, lent_lengths, wrong_length, turned_away, open_of, opened_fresh}
use Rattle.demands.specs.Opens.{Opens, nth}
use Rattle.demands.specs.Demand3.{Openable}
use Rattle.demands.proofs.Clean.{clean_posed}

-- ---- the words of `Opens` and the tests

module _ (gs : List Given) (solution : List ℕ) where
  pub opens_ascending : Opens gs solution → ascending gs ≡ true
  unfolding nth
  opens_ascending o = ascends_of gs o.ascend

  pub opens_vouched : Opens gs solution → Vouched gs solution
  unfolding nth
  opens_vouched o =
      record {
        left = o.left;
        digits = o.digits;
        agree = o.agree;
        grid = each_of OnGrid gs (given 0 0 0) o.grid;
        match = each_of (Matches solution) gs (given 0 0 0) o.match;
      }

  pub opens_of : length solution ≡ 81 → ascending gs ≡ true → Vouched gs solution → Opens gs solution
  unfolding nth
  opens_of n t v =
      record {
        cells = n;
        ascend = ascends_at gs t;
        left = v.left;
        digits = v.digits;
        agree = v.agree;
        grid = λ i u. each_at OnGrid gs v.grid i (given 0 0 0) u;
        match = λ i u. each_at (Matches solution) gs v.match i (given 0 0 0) u;
      }

  pub opens→posed : Opens gs solution → well_posed gs solution ≡ accepted
  opens→posed o = posed gs solution (opens_ascending o) (opens_vouched o)

  posed→opens : length solution ≡ 81 → well_posed gs solution ≡ accepted → Opens gs solution
  unfolding well_posed is_accepted
  posed→opens n h =
      let a = or_else_parts (refused_if (not (ascending gs)) (refusal 19 0 0)) (vouch gs solution) h in
      opens_of n (not-false _ (if_passed _ (refusal 19 0 0) refl a.0)) (vouched gs solution a.1)

-- ---- what holds of givens that open

module _ (gs : List Given) (solution : List ℕ) (o : Opens gs solution) where
  pub opens_grid : Each OnGrid gs
  opens_grid = (opens_vouched gs solution o).grid

  pub opens_match : Each (Matches solution) gs
  opens_match = (opens_vouched gs solution o).match

  -- their cells rise, so no two stand at one cell
  pub opens_rising : Rising 0 gs
  opens_rising = vouched_rising gs solution (opens_ascending gs solution o) (opens_vouched gs solution o)

  -- in the fresh state: a cell is a given's exactly where one stands, holds then the solution's digit, and else none
  pub opening_given : (cell : ℕ) → is_cell cell ≡ true → is_given (opening gs).given cell ≡ marked gs cell
  unfolding opening
  opening_given cell q = given_at_lem gs cell opens_grid q

  pub opening_digit : (cell : ℕ) → is_cell cell ≡ true → is_given (opening gs).given cell ≡ true → digit_at (opening gs) cell ≡ at solution cell
  unfolding opening digit_at
  opening_digit cell q t =
      given_digit solution gs opens_grid opens_rising opens_match cell q (sym (opening_given cell q) ∙ t)

  pub opening_free : (cell : ℕ) → is_cell cell ≡ true → is_given (opening gs).given cell ≡ false → digit_at (opening gs) cell ≡ 0
  unfolding opening digit_at
  opening_free cell q t = free_digit gs opens_grid opens_rising cell q (sym (opening_given cell q) ∙ t)

  pub opening_note : (cell : ℕ) → is_cell cell ≡ true → note_at (opening gs) cell ≡ 0
  unfolding opening note_at
  opening_note cell q = empty_note cell q

  pub opening_fit : Fit (opening gs)
  opening_fit = fit_opening solution gs opens_grid opens_match (opens_ascending gs solution o) o.digits o.left

-- ---- number 1 of what is lent

pub lengths_right : (solution journal checks : List ℕ) → length solution ≡ 81 → length journal ≡ journal_bytes → length checks ≡ check_memory
    → lent_lengths solution journal checks ≡ true
unfolding lent_lengths
lengths_right solution journal checks n j c =
    both_true _ _ (eq-eqb (length journal) journal_bytes j) (both_true _ _ (eq-eqb (length checks) check_memory c) (eq-eqb (length solution) 81 n))

module _ (solution journal checks : List ℕ) (t : lent_lengths solution journal checks ≡ true) where
  pub lent_journal : length journal ≡ journal_bytes
  unfolding lent_lengths
  lent_journal = eqb-true (length journal) journal_bytes (both_left _ _ t)

  pub lent_checks : length checks ≡ check_memory
  unfolding lent_lengths
  lent_checks = eqb-true (length checks) check_memory (both_left _ _ (both_right _ _ t))

  pub lent_solution : length solution ≡ 81
  unfolding lent_lengths
  lent_solution = eqb-true (length solution) 81 (both_right _ _ (both_right _ _ t))

-- ---- what an accepted answer says

-- a refusal that was handed back is none where the answer is accepted
no_refusal : (r : Refusal) → r ≡ accepted → is_accepted r ≡ false → ⊥
no_refusal r e p = not_both_ways (is_accepted r) (accepts r e) p

-- an outcome by a test of a refusal: where the outcome is accepted, the refusal is none
pub went_on : (r : Refusal) (o : Opened) → (pick (is_accepted r) o (turned_away r)).answer.refusal ≡ accepted → is_accepted r ≡ true
unfolding turned_away
went_on r o h =
    by_test (is_accepted r) (λ t. t)
    (λ t. absurd (no_refusal r (sym (ap (λ (x : Opened). x.answer.refusal) (pick_false (is_accepted r) o (turned_away r) t)) ∙ h) t))

-- it was not refused by 1, which leaves the memory as it was
pub not_by_length : (t : Bool) (o : Opened) (journal checks : List ℕ) → (pick t o (wrong_length journal checks)).answer.refusal ≡ accepted → t ≡ true
unfolding pick wrong_length is_accepted
not_by_length true o journal checks h = refl
not_by_length false o journal checks h = absurd (not_both_ways false (accepts (refusal 1 0 0) h) refl)

-- ---- opening, both ways

pub opened : (givens solution journal checks : List ℕ) → Openable givens solution journal checks → open_of givens solution journal checks ≡ opened_fresh (triples givens) solution
unfolding open_of
opened givens solution journal checks o =
    pick_true _ _ _
    (both_true _ _ (lengths_right solution journal checks o.opens.cells o.journal_length o.checks_length) (eq-eqb (length givens % 3) 0 o.threes))
    ∙ pick_true _ _ _ (accepts (well_posed (triples givens) solution) (opens→posed (triples givens) solution o.opens))

module _ (givens solution journal checks : List ℕ) (h : (open_of givens solution journal checks).answer.refusal ≡ accepted) where
  -- 1
  lent : both (lent_lengths solution journal checks) (eqb (length givens % 3) 0) ≡ true
  unfolding open_of
  lent = not_by_length _ _ journal checks h

  -- 19, 22 to 27
  was_posed : well_posed (triples givens) solution ≡ accepted
  unfolding open_of
  was_posed = clean_posed (triples givens) solution (went_on _ _ (sym (ap (λ (x : Opened). x.answer.refusal) (pick_true _ _ _ lent)) ∙ h))

  is_openable_lem : Openable givens solution journal checks
  is_openable_lem =
      record {
        journal_length = lent_journal solution journal checks (both_left _ _ lent);
        checks_length = lent_checks solution journal checks (both_left _ _ lent);
        threes = eqb-true (length givens % 3) 0 (both_right _ _ lent);
        opens = posed→opens (triples givens) solution (lent_solution solution journal checks (both_left _ _ lent)) was_posed;
      }

pub opens_exactly : (givens solution journal checks : List ℕ) → ((open_of givens solution journal checks).answer.refusal ≡ accepted) ↔ Openable givens solution journal checks
unfolding opened_fresh
opens_exactly givens solution journal checks = (
  is_openable_lem givens solution journal checks,
  (λ o. ap (λ (x : Opened). x.answer.refusal) (opened givens solution journal checks o)),
)
