-- `puzzle::vouch::solution_digit` meets its contract: each of its three
-- returns is the definition where the tests before it have gone as they did.
-- Assumes nothing.
use Prim.Native.Nat.{ℕ, ◌≤◌, ◌<◌}
use mathlib.Core.Path.{◌≡◌, refl, sym, ◌∙◌}
use mathlib.Core.List.{List}
use borrow.Author.Tests.{eq-eqb, ne_eqb, eqb-false, le-leb, lt-leb}
use lib.Dec.{eqb, leb}
use Rattle.sudoku.specs.Grid.{at}
use Rattle.sudoku.proofs.Walks.{not_is_true, not_is_false}
use Rattle.puzzle.specs.Refusals.{refusal, accepted}
use Rattle.puzzle.specs.Vouch.{solution_digit}
use Rattle.puzzle.proofs.Accepted.{if_not}
use Rattle.puzzle.proofs.Refusals.{refused_if_lem, or_else_by, or_else_past}
use Rattle.puzzle.proofs.vouch.solution_digit.Goals as goal

module _ (s : List ℕ) (cell : ℕ) where
  empty : at s cell ≡ 0 → solution_digit s cell ≡ refusal 23 cell 0
  unfolding solution_digit
  empty e =
      or_else_by _ _ (refusal 23 cell 0) (refused_if_lem (eqb (at s cell) 0) (refusal 23 cell 0) (eq-eqb (at s cell) 0 e)) (eqb-false 23 0 refl)

  module _ (n : at s cell ≡ 0 → ⊥) where
    large : 9 < at s cell → solution_digit s cell ≡ refusal 24 cell 0
    unfolding solution_digit
    large h =
        or_else_past _ _ (if_not (eqb (at s cell) 0) (refusal 23 cell 0) (ne_eqb (at s cell) 0 n))
        ∙ refused_if_lem _ (refusal 24 cell 0) (not_is_true (leb (at s cell) 9) (lt-leb (at s cell) 9 h))

    digit : at s cell ≤ 9 → solution_digit s cell ≡ accepted
    unfolding solution_digit
    digit h =
        or_else_past _ _ (if_not (eqb (at s cell) 0) (refusal 23 cell 0) (ne_eqb (at s cell) 0 n))
        ∙ if_not _ (refusal 24 cell 0) (not_is_false (leb (at s cell) 9) (le-leb (at s cell) 9 h))

pub returns-then-digit-eq0 : goal.returns-then-digit-eq0
returns-then-digit-eq0 c solution e = sym (empty solution c.args.cell (e ∙ c.if-digit-eq0.true))

pub returns-then-digit-gt-SIDE : goal.returns-then-digit-gt-SIDE
returns-then-digit-gt-SIDE c solution e =
    sym (large solution c.args.cell (λ z. c.if-digit-eq0.false (sym e ∙ z)) (rw e c.if-digit-gt-SIDE.true))

pub returns : goal.returns
returns c solution e =
    sym (digit solution c.args.cell (λ z. c.if-digit-eq0.false (sym e ∙ z)) (rw e c.if-digit-gt-SIDE.false))
