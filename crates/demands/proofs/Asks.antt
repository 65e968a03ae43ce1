-- Numbers 31 to 33: reopening admits the checks of a record exactly where each is on the grid
-- and no given's, of a digit, after a move, and not a right digit where one cell was to play.
-- Assumes nothing.
use Prim.Native.Nat.{ℕ, suc}
use mathlib.Core.Path.{◌≡◌, refl, ◌∙◌}
use mathlib.Core.Bool.{true, false, not}
use mathlib.Core.List.{List, [], ◌∷◌}
use lib.Dec.{eqb}
use borrow.Author.Tests.{not-false, eq-eqb, ne_eqb, eqb-true, eqb-false}
use Rattle.puzzle.specs.Givens.{is_given}
use Rattle.sudoku.specs.Tests.{◌⇒◌, first, both, count}
use Rattle.sudoku.proofs.Walks.{passed, no_if, first_none, not_is_false}
use Rattle.sudoku.proofs.Each.{Each}
use Rattle.sudoku.specs.Grid.{in_range, on_grid, cell_of}
use Rattle.puzzle.specs.Refusals.{refusal, accepted, is_accepted}
use Rattle.puzzle.proofs.Accepted.{accepts, if_not, if_passed, or_else_of, or_else_left, or_else_right}
use Rattle.journal.specs.StoredChecks.{is_right}
use Rattle.board.specs.declared.Board.{Board}
use Rattle.board.specs.Board.{state_of}
use Rattle.journal.specs.declared.Asked.{Asked}
use Rattle.record.specs.Reopen.{to_play, check_refusal, checks_refusal}

pub record Asks (given : List ℕ) (solution : List ℕ) (c : Asked) : Type 0 where
  pub grid : on_grid c.row c.column ≡ true
  pub free : is_given given (cell_of c.row c.column) ≡ false
  pub range : in_range c.digit ≡ true
  pub some : c.standing ≡ 0 → ⊥
  pub unfinished :
      both (is_right solution (cell_of c.row c.column) c.digit) (eqb (count (λ cell. not (is_given given cell)) 81 1) 1) ≡ false

module _ (b : Board) (k : ℕ) (c : Asked) where
  admits : Asks b.given b.solution c → check_refusal b (to_play b) k c ≡ accepted
  unfolding check_refusal to_play state_of
  admits a =
      or_else_of _ _
      (accepts _
      (if_not _ _
      (not_is_false _
      (eq-eqb _ 0
      (no_if (not (on_grid c.row c.column)) 3 _ (not_is_false _ a.grid)
      ∙ no_if (is_given b.given (cell_of c.row c.column)) 5 _ a.free
      ∙ no_if (not (in_range c.digit)) 8 [] (not_is_false _ a.range)
      ∙ first_none)))))
      (or_else_of _ _ (accepts _ (if_not _ (refusal 32 k 0) (ne_eqb c.standing 0 a.some))) (if_not _ (refusal 33 k 0) a.unfinished))

  admitted : is_accepted (check_refusal b (to_play b) k c) ≡ true → Asks b.given b.solution c
  unfolding check_refusal to_play state_of is_accepted
  admitted h =
      let on = passed _ 2 _ numbers in
      let free = passed _ 4 _ on.1 in
      let range = passed _ 7 _ free.1 in
      record {
        grid = not-false _ on.0;
        free = free.0;
        range = not-false _ range.0;
        some = eqb-false c.standing 0 (if_passed _ (refusal 32 k 0) refl (or_else_left _ _ (or_else_right _ _ h)));
        unfinished = if_passed _ (refusal 33 k 0) refl (or_else_right _ _ (or_else_right _ _ h));
      }
    where
      numbers : first ((not (on_grid c.row c.column) ⇒ 3) ∷ (is_given b.given (cell_of c.row c.column) ⇒ 5) ∷ (not (in_range c.digit) ⇒ 8) ∷ []) ≡ 0
      numbers = eqb-true _ 0 (not-false _ (if_passed _ _ refl (or_else_left _ _ h)))

pub admits_all : (b : Board) (k : ℕ) (cs : List Asked) → Each (Asks b.given b.solution) cs → checks_refusal b (to_play b) k cs ≡ accepted
unfolding checks_refusal Each
admits_all b k [] h = refl
admits_all b k (c ∷ cs) h = or_else_of _ _ (accepts _ (admits b k c h.0)) (admits_all b (suc k) cs h.1)

pub admitted_all : (b : Board) (k : ℕ) (cs : List Asked) → is_accepted (checks_refusal b (to_play b) k cs) ≡ true → Each (Asks b.given b.solution) cs
unfolding checks_refusal Each
admitted_all b k [] h = tt
admitted_all b k (c ∷ cs) h =
    (admitted b k c (or_else_left _ _ h), admitted_all b (suc k) cs (or_else_right (check_refusal b (to_play b) k c) _ h))
