-- What the pencil's move does: one mark of its target is turned round, and nothing else; a second one made at once
-- gives back the state before the first.
-- Assumes nothing.
use Prim.Native.Nat.{ℕ}
use mathlib.Core.Path.{◌≡◌, refl, ap, subst, ◌∙◌}
use mathlib.Core.Bool.{Bool, true, false, not}
use mathlib.Core.List.{List, []}
use lib.Dec.{eqb}
use lib.ListN.{length}
use borrow.Author.Tests.{eqb-true, eq-eqb}
use Rattle.puzzle.specs.Givens.{is_on}
use Rattle.sudoku.specs.Tests.{first, pick, both, either}
use Rattle.sudoku.specs.Grid.{in_range, on_grid, cell_of, is_cell}
use Rattle.sudoku.proofs.Grid.{cell_of_is_cell}
use Rattle.sudoku.proofs.Walks.{by_test, no_if, first_none, not_is_true, not_is_false, both_true, both_left, both_right, pick_true, pick_false}
use Rattle.note.specs.Note.{contains}
use Rattle.puzzle.specs.Puzzle.{holds_digit}
use Rattle.journal.specs.declared.Move.{Move}
use Rattle.journal.specs.declared.Move.TheVariants.{WriteMark, StrikeMark}
use Rattle.journal.specs.State.{State, note_at, accepts_marks, perform, take_back}
use Rattle.journal.proofs.Moves.{Fit, taken_back_lem}
use Rattle.journal.proofs.Pointwise.{write_digits, strike_digits, write_status, strike_status, write_mark_lem, strike_mark_lem}
use Rattle.play.specs.declared.Play.TheVariants.{Pencil}
use Rattle.play.specs.Play.{play_tests}
use Rattle.demands.specs.Book.{added}
use Rattle.demands.proofs.Plays.{Passes}
use Rattle.demands.proofs.Refusals.{PencilAllowed, pencil_passes, passes_allowed}

-- a mark that is struck, and one that is written, as one turned round
struck_turned : (here stands : Bool) → (here ≡ true → stands ≡ true) → both stands (not here) ≡ pick here (not stands) stands
unfolding both pick
struck_turned true true h = refl
struck_turned true false h = h refl
struck_turned false true h = refl
struck_turned false false h = refl

written_turned : (here stands : Bool) → (here ≡ true → stands ≡ false) → either stands here ≡ pick here (not stands) stands
unfolding either pick
written_turned true true h = h refl
written_turned true false h = refl
written_turned false true h = refl
written_turned false false h = refl

module _ (s : State) (row column digit : ℕ) where
  abbrev target : ℕ
  target = cell_of row column

  strikes : contains (note_at s target) digit ≡ true → added s (Pencil row column digit) ≡ StrikeMark row column digit
  unfolding added
  strikes t = pick_true _ _ _ t

  writes : contains (note_at s target) digit ≡ false → added s (Pencil row column digit) ≡ WriteMark row column digit
  unfolding added
  writes t = pick_false _ _ _ t

  pub pencil_digits : (perform s (added s (Pencil row column digit))).digits ≡ s.digits
  pencil_digits =
      by_test (contains (note_at s target) digit)
      (λ t. ap (λ (m : Move). (perform s m).digits) (strikes t) ∙ strike_digits s row column digit)
      (λ t. ap (λ (m : Move). (perform s m).digits) (writes t) ∙ write_digits s row column digit)

  module _ (on : on_grid row column ≡ true) (digits_81 : length s.digits ≡ 81) (notes_81 : length s.notes ≡ 81) (range : in_range digit ≡ true) (cell d : ℕ) (is : is_cell cell ≡ true) where
    -- at the target the mark stands as it was found there
    same_mark : (t : Bool) → contains (note_at s target) digit ≡ t → both (eqb d digit) (eqb cell target) ≡ true → contains (note_at s cell) d ≡ t
    same_mark t p h = (λ i. contains (note_at s (eqb-true cell target (both_right _ _ h) i)) (eqb-true d digit (both_left _ _ h) i)) ∙ p

    pub pencil_mark : contains (note_at (perform s (added s (Pencil row column digit))) cell) d
        ≡ pick (both (eqb d digit) (eqb cell target)) (not (contains (note_at s cell) d)) (contains (note_at s cell) d)
    pencil_mark =
        by_test (contains (note_at s target) digit)
        (λ t.
        ap (λ (m : Move). contains (note_at (perform s m) cell) d) (strikes t)
        ∙ strike_mark_lem s row column on digits_81 notes_81 digit cell d is
        ∙ struck_turned (both (eqb d digit) (eqb cell target)) (contains (note_at s cell) d) (same_mark true t))
        (λ t.
        ap (λ (m : Move). contains (note_at (perform s m) cell) d) (writes t)
        ∙ write_mark_lem s row column on digits_81 notes_81 digit cell d is range
        ∙ written_turned (both (eqb d digit) (eqb cell target)) (contains (note_at s cell) d) (same_mark false t))

-- ---- twice

module _ (s : State) (row column digit : ℕ) (fit : Fit s) (unsolved : is_on s.solved ≡ false) (passes : Passes s (added s (Pencil row column digit))) where
  abbrev pressed : State
  pressed = perform s (added s (Pencil row column digit))

  allowed : PencilAllowed s row column digit
  allowed = pencil_passes s row column digit passes

  same_status : pressed.solved ≡ s.solved
  same_status =
      by_test (contains (note_at s (cell_of row column)) digit)
      (λ t. ap (λ (m : Move). (perform s m).solved) (strikes s row column digit t) ∙ strike_status s row column digit)
      (λ t. ap (λ (m : Move). (perform s m).solved) (writes s row column digit t) ∙ write_status s row column digit)

  -- the second press passes as the first did: the cell is empty still, and the status the same
  pub again_passes : first (play_tests pressed (Pencil row column digit)) ≡ 0
  unfolding play_tests accepts_marks
  again_passes =
      no_if (not (on_grid row column)) 3 _ (not_is_false _ allowed.grid)
      ∙ no_if (is_on pressed.solved) 4 _ (ap is_on same_status ∙ unsolved)
      ∙ no_if (not (not (holds_digit pressed.digits (cell_of row column)))) 7 _
      (ap (λ (digits : List ℕ). not (not (holds_digit digits (cell_of row column)))) (pencil_digits s row column digit)
      ∙ ap (λ (t : Bool). not (not t)) allowed.empty)
      ∙ no_if (not (in_range digit)) 8 [] (not_is_false _ allowed.range)
      ∙ first_none

  -- the mark stands otherwise now
  turned : contains (note_at pressed (cell_of row column)) digit ≡ not (contains (note_at s (cell_of row column)) digit)
  unfolding both
  turned =
      pencil_mark s row column digit allowed.grid fit.digits_81 fit.notes_81 allowed.range (cell_of row column) digit (cell_of_is_cell row column allowed.grid)
      ∙ pick_true _ _ _ (both_true _ _ (eq-eqb digit digit refl) (eq-eqb (cell_of row column) (cell_of row column) refl))

  struck_written : Passes s (StrikeMark row column digit) → perform (perform s (StrikeMark row column digit)) (WriteMark row column digit) ≡ s
  unfolding perform take_back
  struck_written q =
      taken_back_lem s (StrikeMark row column digit) fit unsolved (passes_allowed s (StrikeMark row column digit) q)
      (ap is_on (strike_status s row column digit) ∙ unsolved)

  written_struck : Passes s (WriteMark row column digit) → perform (perform s (WriteMark row column digit)) (StrikeMark row column digit) ≡ s
  unfolding perform take_back
  written_struck q =
      taken_back_lem s (WriteMark row column digit) fit unsolved (passes_allowed s (WriteMark row column digit) q)
      (ap is_on (write_status s row column digit) ∙ unsolved)

  -- so the second takes the first back
  pub twice : perform pressed (added pressed (Pencil row column digit)) ≡ s
  twice =
      by_test (contains (note_at s (cell_of row column)) digit)
      (λ t.
      ap (λ (m : Move). perform pressed m) (writes pressed row column digit (turned ∙ not_is_false _ t))
      ∙ ap (λ (m : Move). perform (perform s m) (WriteMark row column digit)) (strikes s row column digit t)
      ∙ struck_written (subst (Passes s) (strikes s row column digit t) passes))
      (λ t.
      ap (λ (m : Move). perform pressed m) (strikes pressed row column digit (turned ∙ not_is_true _ t))
      ∙ ap (λ (m : Move). perform (perform s m) (StrikeMark row column digit)) (writes s row column digit t)
      ∙ written_struck (subst (Passes s) (writes s row column digit t) passes))
