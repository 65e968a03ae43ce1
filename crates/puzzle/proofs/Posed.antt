-- Opening's tests against what they mean: none of 19 and 22 to 27 applies exactly
-- where the givens ascend, are fewer than 81, are on the grid and match the solution,
-- and the solution has a digit 1 to 9 at each cell and no two peers that are equal.
-- Assumes nothing.
use Prim.Native.Nat.{ℕ, suc, ◌≤◌, ◌<◌}
use mathlib.Core.Path.{◌≡◌, refl, sym, ap, ◌∙◌}
use mathlib.Core.Bool.{true, not}
use mathlib.Core.List.{List, [], ◌∷◌}
use native.Mathlib.Omega.{arith}
use borrow.Author.Tests.{leb-true, leb-false, le-leb, lt-leb, eqb-true, eqb-false, eq-eqb, ne_eqb, not-false}
use lib.Dec.{eqb}
use lib.ListN.{length, get_or}
use Rattle.sudoku.specs.Tests.{pick, either, every}
use Rattle.sudoku.specs.Grid.{in_range, on_grid, is_cell, are_peers, peers_of, at}
use Rattle.sudoku.proofs.Walks.{by_test, every_at, not_both_ways, not_is_false}
use Rattle.sudoku.proofs.Grid.{cell_from, cell_to, is_cell_lem, in_range_lem, range_from, range_to, peers_length, peers_from}
use Rattle.sudoku.proofs.Each.{Each}
use Rattle.puzzle.specs.declared.Given.{Given}
use Rattle.puzzle.specs.Refusals.{refusal, accepted, is_accepted, refused_if, first_refused}
use Rattle.puzzle.specs.Givens.{ascending}
use Rattle.puzzle.specs.Puzzle.{is_held, is_full, is_consistent}
use Rattle.puzzle.specs.Vouch.{nothing_left, solution_digit, first_holding, solution_conflict, given_matches, givens_match, vouch, well_posed}
use Rattle.puzzle.proofs.Puzzle.{peers_hold, full_exactly, consistent_exactly}
use Rattle.puzzle.proofs.Accepted.{accepts, if_not, if_passed, or_else_of, or_else_left, or_else_right, or_else_parts, first_of, first_at}
use Rattle.puzzle.proofs.Givens.{OnGrid, Matches, Rising, rising}

-- what 22 to 27 ask
pub record Vouched (gs : List Given) (solution : List ℕ) : Type 0 where
  pub left : length gs < 81
  pub digits : (cell : ℕ) → is_cell cell ≡ true → in_range (at solution cell) ≡ true
  pub agree : (cell other : ℕ) → is_cell cell ≡ true → is_cell other ≡ true → are_peers cell other ≡ true → at solution cell ≡ at solution other → ⊥
  pub grid : Each OnGrid gs
  pub match : Each (Matches solution) gs

-- ---- 23 and 24 at a cell

module _ (solution : List ℕ) (cell : ℕ) where
  digit_passed : is_accepted (solution_digit solution cell) ≡ true → in_range (at solution cell) ≡ true
  unfolding solution_digit is_accepted
  digit_passed h =
      in_range_lem (at solution cell)
      (omega (arith, eqb-false (at solution cell) 0 (if_passed _ (refusal 23 cell 0) refl (or_else_left _ _ h))))
      (leb-true (at solution cell) 9 (not-false _ (if_passed _ (refusal 24 cell 0) refl (or_else_right (refused_if (eqb (at solution cell) 0) (refusal 23 cell 0)) _ h))))

  digit_passes : in_range (at solution cell) ≡ true → is_accepted (solution_digit solution cell) ≡ true
  unfolding solution_digit is_accepted
  digit_passes h =
      accepts (solution_digit solution cell)
      (or_else_of _ _ (accepts _ (if_not _ (refusal 23 cell 0) (ne_eqb (at solution cell) 0 (λ e. omega (arith, e, range_from _ h)))))
      (if_not _ (refusal 24 cell 0) (not_is_false _ (le-leb _ 9 (range_to _ h)))))

-- 81 digits pass at all cells
pub digits_pass : (solution : List ℕ) → every (λ cell. in_range (at solution cell)) 81 1 ≡ true → first_refused (solution_digit solution) 81 1 ≡ accepted
digits_pass solution t =
    first_of (solution_digit solution) 81 1 (λ cell a b. digit_passes solution cell (every_at (λ k. in_range (at solution k)) 81 1 cell t a b))

-- ---- 25 at a cell

-- there is a first that holds d exactly where one does; cells count from 1
holding_held : (digits : List ℕ) (d : ℕ) (cells : List ℕ) → ((i : ℕ) → i < length cells → 1 ≤ get_or cells i 0)
    → not (eqb (first_holding digits d cells) 0) ≡ is_held digits d cells
unfolding first_holding is_held pick either
holding_held digits d [] some = refl
holding_held digits d (c ∷ cells) some =
    by_test (eqb (at digits c) d) (λ t. rw t (ap not (ne_eqb c 0 (λ e. omega (arith, some 0 (omega arith))))))
    (λ t. rw t (holding_held digits d cells (λ i u. some (suc i) (omega arith))))

module _ (solution : List ℕ) (cell : ℕ) (p : is_cell cell ≡ true) where
  conflict_test : not (eqb (first_holding solution (at solution cell) (peers_of cell)) 0) ≡ is_held solution (at solution cell) (peers_of cell)
  conflict_test = holding_held solution (at solution cell) (peers_of cell) (λ i u. peers_from cell p i (omega (arith, u, peers_length cell)))

  conflict_passed : is_accepted (solution_conflict solution cell) ≡ true
      → (other : ℕ) → is_cell other ≡ true → are_peers cell other ≡ true → at solution cell ≡ at solution other → ⊥
  unfolding solution_conflict is_accepted
  conflict_passed h other q peer e =
      not_both_ways _ ((peers_hold solution (at solution cell) cell p).1 (record { peer = other; is_cell_lem = q; are_peers_lem = peer; holds = sym e }))
      (sym conflict_test ∙ if_passed _ (refusal 25 cell _) refl h)

  conflict_passes : ((other : ℕ) → is_cell other ≡ true → are_peers cell other ≡ true → at solution cell ≡ at solution other → ⊥)
      → is_accepted (solution_conflict solution cell) ≡ true
  unfolding solution_conflict is_accepted
  conflict_passes h =
      by_test (is_held solution (at solution cell) (peers_of cell))
      (λ t. let w = (peers_hold solution (at solution cell) cell p).0 t in absurd (h w.peer w.is_cell_lem w.are_peers_lem (sym w.holds)))
      (λ t. accepts (solution_conflict solution cell) (if_not _ (refusal 25 cell _) (conflict_test ∙ t)))

-- a full grid in which no cell conflicts passes at all 81 cells
pub consistent_passes : (digits : List ℕ) → is_full digits ≡ true → is_consistent digits ≡ true → first_refused (solution_conflict digits) 81 1 ≡ accepted
consistent_passes digits full clear =
    first_of (solution_conflict digits) 81 1
    (λ cell a b.
    let p : is_cell cell ≡ true = is_cell_lem cell a (omega arith) in
    conflict_passes digits cell p
    (λ other q w e. (full_exactly digits).0 full cell p ((consistent_exactly digits).0 clear cell other p q w e)))

-- ---- 26 and 27

module _ (solution : List ℕ) (g : Given) (index : ℕ) where
  given_passed : is_accepted (given_matches solution g index) ≡ true → OnGrid g × Matches solution g
  unfolding given_matches is_accepted
  given_passed h = (
    not-false _ (if_passed _ (refusal 26 index 0) refl (or_else_left _ _ h)),
    eqb-true _ _
        (not-false _
        (if_passed _ (refusal 27 index 0) refl (or_else_right (refused_if (not (on_grid g.row g.column)) (refusal 26 index 0)) _ h))),
  )

  given_passes : OnGrid g → Matches solution g → is_accepted (given_matches solution g index) ≡ true
  unfolding given_matches is_accepted
  given_passes p m =
      accepts (given_matches solution g index)
      (or_else_of _ _ (accepts _ (if_not _ (refusal 26 index 0) (not_is_false _ p)))
      (if_not _ (refusal 27 index 0) (not_is_false _ (eq-eqb _ _ m))))

givens_passed : (solution : List ℕ) (gs : List Given) (index : ℕ) → is_accepted (givens_match solution gs index) ≡ true → Each OnGrid gs × Each (Matches solution) gs
unfolding givens_match Each
givens_passed solution [] index h = (tt, tt)
givens_passed solution (g ∷ gs) index h =
    let here = given_passed solution g index (or_else_left _ _ h) in
    let rest = givens_passed solution gs (suc index) (or_else_right (given_matches solution g index) _ h) in
    ((here.0, rest.0), (here.1, rest.1))

givens_pass : (solution : List ℕ) (gs : List Given) (index : ℕ) → Each OnGrid gs → Each (Matches solution) gs → givens_match solution gs index ≡ accepted
unfolding givens_match Each
givens_pass solution [] index ps ms = refl
givens_pass solution (g ∷ gs) index ps ms =
    or_else_of (given_matches solution g index) (givens_match solution gs (suc index)) (given_passes solution g index ps.0 ms.0)
    (givens_pass solution gs (suc index) ps.1 ms.1)

-- ---- all of them

module _ (gs : List Given) (solution : List ℕ) where
  pub vouched : vouch gs solution ≡ accepted → Vouched gs solution
  unfolding vouch nothing_left is_accepted
  vouched h =
      let a = or_else_parts (nothing_left gs) _ h in
      let b = or_else_parts (first_refused (solution_digit solution) 81 1) _ a.1 in
      let c = or_else_parts (first_refused (solution_conflict solution) 81 1) _ b.1 in
      let d = givens_passed solution gs 1 (accepts _ c.1) in
      record {
        left = leb-false 81 (length gs) (if_passed _ (refusal 22 0 0) refl a.0);
        digits =
            λ cell p.
            digit_passed solution cell
            (first_at (solution_digit solution) 81 1 b.0 cell (cell_from cell p) (omega (arith, cell_to cell p)));
        agree =
            λ cell other p q.
            conflict_passed solution cell p
            (first_at (solution_conflict solution) 81 1 c.0 cell (cell_from cell p) (omega (arith, cell_to cell p))) other q;
        grid = d.0;
        match = d.1;
      }

  pub vouches : Vouched gs solution → vouch gs solution ≡ accepted
  unfolding vouch nothing_left
  vouches v =
      or_else_of (nothing_left gs) _ (accepts _ (if_not _ (refusal 22 0 0) (lt-leb 81 (length gs) v.left)))
      (or_else_of (first_refused (solution_digit solution) 81 1) _
      (accepts _
      (first_of (solution_digit solution) 81 1
      (λ k l u. digit_passes solution k (v.digits k (is_cell_lem k l (omega arith))))))
      (or_else_of (first_refused (solution_conflict solution) 81 1) _
      (accepts _
      (first_of (solution_conflict solution) 81 1
      (λ k l u.
      let p : is_cell k ≡ true = is_cell_lem k l (omega arith) in
      conflict_passes solution k p (λ other q. v.agree k other p q))))
      (givens_pass solution gs 1 v.grid v.match)))

  pub posed : ascending gs ≡ true → Vouched gs solution → well_posed gs solution ≡ accepted
  unfolding well_posed
  posed t v = or_else_of _ _ (accepts _ (if_not _ (refusal 19 0 0) (not_is_false _ t))) (vouches v)

  -- no two givens stand at one cell: their cells rise
  pub vouched_rising : ascending gs ≡ true → Vouched gs solution → Rising 0 gs
  vouched_rising t v = rising solution gs v.grid v.match t
