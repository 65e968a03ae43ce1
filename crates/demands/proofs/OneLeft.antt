-- Number 33: where one cell is to play, the right digit there solves the
-- board; and a digit placed on the fresh position solves it only so.
-- Assumes nothing.
use Prim.Native.Nat.{ℕ, ◌+◌, ◌≤◌}
use mathlib.Core.Path.{◌≡◌, refl, sym, ap, ◌∙◌}
use mathlib.Core.Bool.{Bool, true, false, not}
use mathlib.Core.List.{List}
use native.Mathlib.Omega.{arith}
use lib.Dec.{eqb}
use lib.ListN.{length}
use borrow.Author.Tests.{eqb-true, eqb-false, not-true}
use Rattle.sudoku.specs.Tests.{both, bit, count}
use Rattle.sudoku.proofs.Walks.{by_test, not_both_ways, both_true, both_left, both_right, count_some}
use Rattle.sudoku.proofs.Counting.{count_zero, count_apart, count_alone}
use Rattle.sudoku.specs.Grid.{in_range, is_cell, at, put}
use Rattle.sudoku.proofs.Grid.{cell_from, cell_to, is_cell_lem, range_from, range_to, at_put, at_put_other}
use Rattle.puzzle.specs.declared.Given.{Given}
use Rattle.puzzle.specs.Givens.{is_on, digits_of, is_given}
use Rattle.puzzle.specs.Puzzle.{is_full, is_consistent}
use Rattle.puzzle.specs.EachOnce.{Row, unit_of, in_unit, times_held, EachOnce}
use Rattle.puzzle.proofs.Givens.{length_digits_of}
use Rattle.puzzle.proofs.EachOnce.{unit_in_range, unit_peers, each_once}
use Rattle.puzzle.proofs.Puzzle.{full_exactly, consistent_exactly}
use Rattle.journal.specs.declared.Move.{Move}
use Rattle.journal.specs.State.{opening, digit_at}
use Rattle.board.specs.Board.{state_of, board_of, fresh}
use Rattle.record.specs.Reopen.{to_play}
use Rattle.record.proofs.Givens.{to_play_lem}
use Rattle.demands.specs.Book.{perform_all}
use Rattle.demands.specs.Opens.{Opens}
use Rattle.demands.proofs.Opening.{opening_digit, opening_free, opens_grid, opens_rising}
use Rattle.demands.proofs.Plays.{Plays}
use Rattle.demands.proofs.Reached.{reached_fit, reached_digit}

module _ (gs : List Given) (solution : List ℕ) (o : Opens gs solution) where
  -- the cells that are no givens
  free : ℕ → Bool
  free cell = not (is_given (opening gs).given cell)

  free_of : (cell : ℕ) → is_given (opening gs).given cell ≡ false → free cell ≡ true
  unfolding free
  free_of cell p = ap not p

  of_free : (cell : ℕ) → free cell ≡ true → is_given (opening gs).given cell ≡ false
  unfolding free
  of_free cell p = not-true (is_given (opening gs).given cell) p

  -- together with the givens they are all
  pub cells_to_play : count (λ cell. not (is_given (opening gs).given cell)) 81 1 + length gs ≡ 81
  unfolding to_play state_of fresh board_of opening
  cells_to_play = to_play_lem gs (opens_grid gs solution o) (opens_rising gs solution o) (fresh gs solution) refl

  -- ---- one cell to play, and the right digit there

  module _ (one : count (λ cell. not (is_given (opening gs).given cell)) 81 1 ≡ 1) where
    only_one : (a b : ℕ) → is_cell a ≡ true → is_cell b ≡ true → is_given (opening gs).given a ≡ false → is_given (opening gs).given b ≡ false → a ≡ b
    unfolding free
    only_one a b pa pb fa fb =
        count_alone free 81 1 a b (omega (arith, one)) (cell_from a pa) (omega (arith, cell_to a pa)) (cell_from b pb) (omega (arith, cell_to b pb))
        (free_of a fa) (free_of b fb)

    pub right_solves : (ms : List Move) → Plays (opening gs) ms → (cell : ℕ) → is_cell cell ≡ true → is_given (opening gs).given cell ≡ false
        → digit_at (perform_all (opening gs) ms) cell ≡ at solution cell → is_on (perform_all (opening gs) ms).solved ≡ true
    unfolding digit_at bit
    right_solves ms p cell is f e =
        ap (λ (x : ℕ). is_on x) ((reached_fit gs solution o ms p).status
        ∙ ap bit (both_true (is_full (perform_all (opening gs) ms).digits) (is_consistent (perform_all (opening gs) ms).digits)
        ((full_exactly (perform_all (opening gs) ms).digits).1 (λ c pc z. omega (arith, same c pc, range_from (at solution c) (o.digits c pc))))
        ((consistent_exactly (perform_all (opening gs) ms).digits).1
        (λ a b pa pb t w. absurd (o.agree a b pa pb t (sym (same a pa) ∙ w ∙ same b pb))))))
      where
        same : (c : ℕ) → is_cell c ≡ true → at (perform_all (opening gs) ms).digits c ≡ at solution c
        same c pc =
            by_test (is_given (opening gs).given c) (λ t. reached_digit gs solution o ms p c pc t)
            (λ t. ap (λ (x : ℕ). at (perform_all (opening gs) ms).digits x) (only_one c cell pc is t f) ∙ e ∙ ap (at solution) (only_one cell c is pc f t))

  -- ---- a digit placed on the fresh position

  module _ (cell d : ℕ) (is : is_cell cell ≡ true) (f : is_given (opening gs).given cell ≡ false) (range : in_range d ≡ true)
      (solved : both (is_full (put (digits_of gs) cell d)) (is_consistent (put (digits_of gs) cell d)) ≡ true) where
    here : at (put (digits_of gs) cell d) cell ≡ d
    here = at_put (digits_of gs) cell d (length_digits_of gs) is

    elsewhere : (c : ℕ) → is_cell c ≡ true → (cell ≡ c → ⊥) → at (put (digits_of gs) cell d) c ≡ at (digits_of gs) c
    elsewhere c pc ne = at_put_other (digits_of gs) cell c d is pc ne

    -- each other cell is a given, for it holds a digit
    given_elsewhere : (c : ℕ) → is_cell c ≡ true → (cell ≡ c → ⊥) → is_given (opening gs).given c ≡ true
    unfolding opening digit_at
    given_elsewhere c pc ne =
        by_test (is_given (opening gs).given c) (λ t. t)
        (λ t. absurd ((full_exactly (put (digits_of gs) cell d)).0 (both_left (is_full (put (digits_of gs) cell d)) (is_consistent (put (digits_of gs) cell d)) solved) c pc
        (elsewhere c pc ne ∙ opening_free gs solution o c pc t)))

    digit_elsewhere : (c : ℕ) → is_cell c ≡ true → (cell ≡ c → ⊥) → at (put (digits_of gs) cell d) c ≡ at solution c
    unfolding opening digit_at
    digit_elsewhere c pc ne = elsewhere c pc ne ∙ opening_digit gs solution o c pc (given_elsewhere c pc ne)

    is_free : (c : ℕ) → is_cell c ≡ true → free c ≡ true → cell ≡ c
    is_free c pc t = by_test (eqb cell c) (λ u. eqb-true cell c u) (λ u. absurd (not_both_ways (is_given (opening gs).given c) (given_elsewhere c pc (eqb-false cell c u)) (of_free c t)))

    pub solves_one : count (λ c. not (is_given (opening gs).given c)) 81 1 ≡ 1
    unfolding free
    solves_one =
        omega (
          arith,
          count_some free 81 1 cell (cell_from cell is) (omega (arith, cell_to cell is)) (free_of cell f),
          count_apart free 81 1 (λ a b l m u ta tb.
              let ea : cell ≡ a = is_free a (is_cell_lem a l (omega arith)) ta in
              let eb : cell ≡ b = is_free b (is_cell_lem b (omega arith) (omega arith)) tb in
              omega arith),
        )

    small : (c : ℕ) → is_cell c ≡ true → at (put (digits_of gs) cell d) c ≤ 9
    small c pc =
        by_test (eqb cell c)
        (λ t. omega (arith, range_to d range, ap (λ (x : ℕ). at (put (digits_of gs) cell d) x) (eqb-true cell c t), here))
        (λ t. omega (arith, digit_elsewhere c pc (eqb-false cell c t), range_to (at solution c) (o.digits c pc)))

    -- the solution's digit of the cell stands once in the cell's row: not at the
    -- cell, if another digit was placed, nor elsewhere, where it is a peer's
    missing : (at solution cell ≡ d → ⊥) → (c : ℕ) → is_cell c ≡ true
        → both (in_unit Row (unit_of Row cell) c) (eqb (at (put (digits_of gs) cell d) c) (at solution cell)) ≡ false
    unfolding in_unit
    missing ne c pc =
        by_test (both (in_unit Row (unit_of Row cell) c) (eqb (at (put (digits_of gs) cell d) c) (at solution cell)))
        (λ t.
        let e : at (put (digits_of gs) cell d) c ≡ at solution cell = eqb-true _ _ (both_right (in_unit Row (unit_of Row cell) c) _ t) in
        absurd (by_test (eqb cell c)
        (λ u. ne (sym e ∙ ap (λ (x : ℕ). at (put (digits_of gs) cell d) x) (sym (eqb-true cell c u)) ∙ here))
        (λ u.
        let other : cell ≡ c → ⊥ = eqb-false cell c u in
        o.agree c cell pc is (unit_peers c cell pc is Row (eqb-true _ _ (both_left _ _ t)) (λ w. other (sym w))) (sym (digit_elsewhere c pc other) ∙ e))))
        (λ t. t)

    pub solves_right : at solution cell ≡ d
    unfolding EachOnce times_held
    solves_right =
        by_test (eqb (at solution cell) d) (λ t. eqb-true (at solution cell) d t)
        (λ t.
        absurd (omega (
          arith,
          (each_once (put (digits_of gs) cell d) small).0 solved Row (unit_of Row cell) (at solution cell) (unit_in_range Row cell is) (o.digits cell is),
          count_zero (λ c. both (in_unit Row (unit_of Row cell) c) (eqb (at (put (digits_of gs) cell d) c) (at solution cell))) 81 1
              (λ c l u. missing (eqb-false (at solution cell) d t) c (is_cell_lem c l (omega arith))),
        )))
