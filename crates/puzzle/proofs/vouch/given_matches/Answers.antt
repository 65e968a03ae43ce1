-- `puzzle::vouch::given_matches` meets its contract: each of its three
-- returns is the definition where the tests before it have gone as they did.
-- Assumes nothing.
use Prim.Native.Nat.{ℕ}
use mathlib.Core.Path.{◌≡◌, refl, sym, ◌∙◌}
use mathlib.Core.Bool.{true, false}
use mathlib.Core.List.{List}
use native.Mathlib.Omega.{arith}
use borrow.Author.Tests.{eq-eqb, ne_eqb, eqb-false}
use lib.Dec.{eqb}
use Rattle.sudoku.specs.Grid.{on_grid, cell_of, at}
use Rattle.sudoku.proofs.Walks.{not_is_true, not_is_false}
use Rattle.sudoku.proofs.Grid.{grid_bounds}
use Rattle.puzzle.specs.declared.Given.{Given}
use Rattle.puzzle.specs.Refusals.{refusal, accepted}
use Rattle.puzzle.specs.Vouch.{given_matches}
use Rattle.puzzle.specs.Code.Rows.{flat}
use Rattle.puzzle.proofs.Accepted.{if_not}
use Rattle.puzzle.proofs.Refusals.{refused_if_lem, or_else_by, or_else_past}
use Rattle.puzzle.proofs.Rows.{flat_position}
use Rattle.puzzle.proofs.vouch.given_matches.Goals as goal

module _ (s : List ℕ) (g : Given) (index : ℕ) where
  off_grid : on_grid g.row g.column ≡ false → given_matches s g index ≡ refusal 26 index 0
  unfolding given_matches
  off_grid p =
      or_else_by _ _ (refusal 26 index 0) (refused_if_lem _ (refusal 26 index 0) (not_is_true (on_grid g.row g.column) p)) (eqb-false 26 0 refl)

  module _ (p : on_grid g.row g.column ≡ true) where
    differs : (at s (cell_of g.row g.column) ≡ g.digit → ⊥) → given_matches s g index ≡ refusal 27 index 0
    unfolding given_matches
    differs n =
        or_else_past _ _ (if_not _ (refusal 26 index 0) (not_is_false (on_grid g.row g.column) p))
        ∙ refused_if_lem _ (refusal 27 index 0) (not_is_true (eqb (at s (cell_of g.row g.column)) g.digit)
        (ne_eqb (at s (cell_of g.row g.column)) g.digit n))

    agrees : at s (cell_of g.row g.column) ≡ g.digit → given_matches s g index ≡ accepted
    unfolding given_matches
    agrees e =
        or_else_past _ _ (if_not _ (refusal 26 index 0) (not_is_false (on_grid g.row g.column) p))
        ∙ if_not _ (refusal 27 index 0) (not_is_false (eqb (at s (cell_of g.row g.column)) g.digit)
        (eq-eqb (at s (cell_of g.row g.column)) g.digit e))

pub returns-then-not-on_grid : goal.returns-then-not-on_grid
returns-then-not-on_grid c =
    let a = c.args in
    sym (off_grid (flat a.rows) a.g a.index (sym c.on_grid.ensures ∙ c.if-not-on_grid.true))

pub overflow_sub-r : goal.overflow_sub-r
overflow_sub-r c = omega (
  arith,
  c.from-r.ensures,
  (let a = c.args in
      grid_bounds a.g.row a.g.column (sym c.on_grid.ensures ∙ c.if-not-on_grid.false)),
)

pub overflow_sub-c : goal.overflow_sub-c
overflow_sub-c c = omega (
  arith,
  c.from-c.ensures,
  (let a = c.args in
      grid_bounds a.g.row a.g.column (sym c.on_grid.ensures ∙ c.if-not-on_grid.false)),
)

pub offset_bounds-rows-r : goal.offset_bounds-rows-r
offset_bounds-rows-r c = omega (
  arith,
  c.from-r.ensures,
  c.from-c.ensures,
  (let a = c.args in
      grid_bounds a.g.row a.g.column (sym c.on_grid.ensures ∙ c.if-not-on_grid.false)),
)

pub bounds-rows-r : goal.bounds-rows-r
bounds-rows-r c = omega (
  arith,
  c.from-r.ensures,
  (let a = c.args in
      grid_bounds a.g.row a.g.column (sym c.on_grid.ensures ∙ c.if-not-on_grid.false)),
)

pub bounds-rows-c : goal.bounds-rows-c
bounds-rows-c c = omega (
  arith,
  c.from-c.ensures,
  (let a = c.args in
      grid_bounds a.g.row a.g.column (sym c.on_grid.ensures ∙ c.if-not-on_grid.false)),
)

pub returns-then-rows-r : goal.returns-then-rows-r
returns-then-rows-r c =
    let a = c.args in
    sym (differs (flat a.rows) a.g a.index (sym c.on_grid.ensures ∙ c.if-not-on_grid.false) (λ e. c.if-rows-r.true (sym (let a = c.args in
    rw (c.from-r.ensures, c.from-c.ensures) (flat_position a.rows a.g.row a.g.column (sym c.on_grid.ensures ∙ c.if-not-on_grid.false))) ∙ e)))

pub returns : goal.returns
returns c =
    let a = c.args in
    sym (agrees (flat a.rows) a.g a.index (sym c.on_grid.ensures ∙ c.if-not-on_grid.false) ((let a = c.args in
    rw (c.from-r.ensures, c.from-c.ensures) (flat_position a.rows a.g.row a.g.column (sym c.on_grid.ensures ∙ c.if-not-on_grid.false))) ∙ c.if-rows-r.false))
