-- The states that moves reach: from a fit state they are fit, and unsolved on the way to an
-- unsolved one; from the opening their givens are the puzzle's and hold the solution's digits.
-- Assumes nothing.
use Prim.Native.Nat.{ℕ}
use mathlib.Core.Path.{◌≡◌, refl, sym, ap, ◌∙◌}
use mathlib.Core.Bool.{true, false}
use mathlib.Core.List.{List, [], ◌∷◌}
use lib.Dec.{ltb}
use lib.ListN.{length, take}
use lib.Seq.{take_all}
use borrow.Author.Tests.{ltb-true, ltb-false}
use Rattle.puzzle.specs.Givens.{is_on, is_given}
use Rattle.sudoku.proofs.Walks.{by_test, not_both_ways}
use Rattle.sudoku.specs.Grid.{on_grid, cell_of, is_cell, at, put}
use Rattle.sudoku.proofs.Grid.{at_put_other, cell_of_is_cell}
use Rattle.puzzle.specs.declared.Given.{Given}
use Rattle.puzzle.specs.Givens.{given_cells}
use Rattle.journal.specs.declared.Move.{Move}
use Rattle.journal.specs.declared.Move.TheVariants.{Place, Erase, WriteMark, StrikeMark}
use Rattle.journal.specs.State.{State, opening, digit_at, with_notes, put_digit, perform}
use Rattle.journal.proofs.Moves.{Fit, Allowed, fit_perform, given_kept}
use Rattle.demands.specs.Book.{perform_all}
use Rattle.demands.specs.Opens.{Opens}
use Rattle.demands.proofs.Opening.{opening_fit, opening_digit}
use Rattle.demands.proofs.Plays.{Plays, plays_next}
use Rattle.demands.proofs.Refusals.{passes_unsolved, passes_allowed}

-- ---- any state

pub fit_all : (s : State) (ms : List Move) → Fit s → Plays s ms → Fit (perform_all s ms)
unfolding perform_all Plays
fit_all s [] f p = f
fit_all s (m ∷ ms) f p =
    fit_all (perform s m) ms (fit_perform s m f (passes_unsolved s m p.0) (passes_allowed s m p.0)) p.1

-- where the last position is unsolved, every position on the way is
pub on_the_way : (s : State) (ms : List Move) → Plays s ms → is_on (perform_all s ms).solved ≡ false → (i : ℕ) → is_on (perform_all s (take i ms)).solved ≡ false
on_the_way s ms p u i =
    by_test (ltb i (length ms)) (λ t. passes_unsolved _ _ (plays_next s ms i (ltb-true i (length ms) t) p))
    (λ t. ap (λ (l : List Move). is_on (perform_all s l).solved) (take_all i ms (ltb-false i (length ms) t)) ∙ u)

pub given_all : (s : State) (ms : List Move) → (perform_all s ms).given ≡ s.given
unfolding perform_all
given_all s [] = refl
given_all s (m ∷ ms) = given_all (perform s m) ms ∙ given_kept s m

-- no move goes to a given, so its digit stays
module _ (s : State) (cell : ℕ) (is : is_cell cell ≡ true) (g : is_given s.given cell ≡ true) where
  other_cell : (row column d : ℕ) → on_grid row column ≡ true → is_given s.given (cell_of row column) ≡ false → at (put s.digits (cell_of row column) d) cell ≡ at s.digits cell
  other_cell row column d on free =
      at_put_other s.digits (cell_of row column) cell d (cell_of_is_cell row column on) is
      (λ e. not_both_ways (is_given s.given cell) g (ap (λ (c : ℕ). is_given s.given c) (sym e) ∙ free))

  digit_kept : (m : Move) → Allowed s m → digit_at (perform s m) cell ≡ digit_at s cell
  unfolding digit_at perform with_notes put_digit
  digit_kept (Place row column digit) a = other_cell row column digit a.grid a.free
  digit_kept (Erase row column) a = other_cell row column 0 a.grid a.free
  digit_kept (WriteMark row column digit) a = refl
  digit_kept (StrikeMark row column digit) a = refl

pub digits_kept : (s : State) (ms : List Move) (cell : ℕ) → is_cell cell ≡ true → is_given s.given cell ≡ true → Plays s ms → digit_at (perform_all s ms) cell ≡ digit_at s cell
unfolding perform_all Plays
digits_kept s [] cell is g p = refl
digits_kept s (m ∷ ms) cell is g p =
    digits_kept (perform s m) ms cell is (ap (λ (l : List ℕ). is_given l cell) (given_kept s m) ∙ g) p.1
    ∙ digit_kept s cell is g m (passes_allowed s m p.0)

-- ---- from the opening

module _ (gs : List Given) (solution : List ℕ) (o : Opens gs solution) (ms : List Move) (plays : Plays (opening gs) ms) where
  pub reached_fit : Fit (perform_all (opening gs) ms)
  reached_fit = fit_all (opening gs) ms (opening_fit gs solution o) plays

  pub reached_given : (perform_all (opening gs) ms).given ≡ given_cells gs
  unfolding opening
  reached_given = given_all (opening gs) ms

  pub reached_is_given : (cell : ℕ) → is_given (perform_all (opening gs) ms).given cell ≡ is_given (opening gs).given cell
  reached_is_given cell = ap (λ (l : List ℕ). is_given l cell) (given_all (opening gs) ms)

  pub reached_digit : (cell : ℕ) → is_cell cell ≡ true → is_given (opening gs).given cell ≡ true → digit_at (perform_all (opening gs) ms) cell ≡ at solution cell
  reached_digit cell is g = digits_kept (opening gs) ms cell is g plays ∙ opening_digit gs solution o cell is g
