-- The book's refusals: all numbers in one list, the same number that the
-- calls' own lists give; what an accepted call has passed; and a book's step.
-- Assumes nothing.
use Prim.Native.Nat.{ℕ}
use mathlib.Core.Path.{◌≡◌, refl, sym, ap, subst, ◌∙◌}
use mathlib.Core.Bool.{Bool, true, false, not}
use mathlib.Core.List.{List, [], ◌∷◌, ◌++◌}
use lib.Dec.{eqb}
use lib.ListN.{length}
use borrow.Author.Tests.{not-true, not-false, eqb-true, eqb-false, eq-eqb}
use Rattle.puzzle.specs.Givens.{is_on, is_given}
use Rattle.sudoku.specs.Tests.{Test, ◌⇒◌, first, pick, both, either}
use Rattle.sudoku.proofs.Walks.{by_test, passed, no_if, first_none, both_left, both_right, not_is_false, pick_true, pick_false}
use Rattle.sudoku.specs.Grid.{in_range, on_grid, cell_of}
use Rattle.note.specs.Note.{contains}
use Rattle.puzzle.specs.Puzzle.{holds_digit}
use Rattle.journal.specs.declared.Move.{Move}
use Rattle.journal.specs.declared.Move.TheVariants.{Place, Erase, WriteMark, StrikeMark}
use Rattle.journal.specs.Limits.{max_moves, max_checks}
use Rattle.journal.specs.State.{State, digit_at, note_at, holds_players_digit, accepts_marks}
use Rattle.journal.proofs.Moves.{Allowed}
use Rattle.play.specs.declared.Play.{Play}
use Rattle.play.specs.declared.Play.TheVariants as play
use Rattle.play.specs.Play.{move_tests, play_tests}
use Rattle.calls.specs.declared.Call.{Call}
use Rattle.calls.specs.declared.Call.TheVariants.{Make, Undo, Redo, Check}
use Rattle.demands.specs.Book.{Book, made, state_in, refused_by, added, taken, step, is_of, kind_in, ordinal, cell_named, digit_named, no_such_cell, given_cell, no_players_digit, marks_not_accepted, digit_out_of_range, digit_already_stands, nothing_to_undo, nothing_to_redo, journal_full, checks_full}
use Rattle.demands.proofs.Plays.{Passes}
use Rattle.demands.proofs.Added.{added_tests}

-- ---- a move that passes

-- tests, and a last one that does not hold
pub first_last : (ts : List Test) (t : Bool) (n : ℕ) → t ≡ false → first (ts ++ ((t ⇒ n) ∷ [])) ≡ first ts
unfolding first
first_last [] t n p = no_if t n [] p
first_last (u ∷ ts) t n p = ap (λ (x : ℕ). pick u.holds u.number x) (first_last ts t n p)

pub passes_unsolved : (s : State) (m : Move) → Passes s m → is_on s.solved ≡ false
unfolding Passes move_tests
passes_unsolved s (Place row column digit) p = (passed _ 3 _ (passed _ 2 _ p).1).0
passes_unsolved s (Erase row column) p = (passed _ 3 _ (passed _ 2 _ p).1).0
passes_unsolved s (WriteMark row column digit) p = (passed _ 3 _ (passed _ 2 _ p).1).0
passes_unsolved s (StrikeMark row column digit) p = (passed _ 3 _ (passed _ 2 _ p).1).0

pub place_passes : (s : State) (row column digit : ℕ) → Passes s (Place row column digit) → Allowed s (Place row column digit)
unfolding Passes move_tests
place_passes s row column digit p =
    let on = passed _ 2 _ p in
    let unsolved = passed _ 3 _ on.1 in
    let free = passed _ 4 _ unsolved.1 in
    let range = passed _ 7 _ free.1 in
    let other = passed _ 8 _ range.1 in
    record { grid = not-false _ on.0; free = free.0; range = not-false _ range.0; other = eqb-false _ _ other.0 }

pub erase_passes : (s : State) (row column : ℕ) → Passes s (Erase row column) → Allowed s (Erase row column)
unfolding Passes move_tests holds_players_digit
erase_passes s row column p =
    let on = passed _ 2 _ p in
    let unsolved = passed _ 3 _ on.1 in
    let holds = not-false _ (passed _ 5 _ unsolved.1).0 in
    record { grid = not-false _ on.0; holds = both_left _ _ holds; free = not-true _ (both_right _ _ holds) }

write_passes : (s : State) (row column digit : ℕ) → Passes s (WriteMark row column digit) → Allowed s (WriteMark row column digit)
unfolding Passes move_tests accepts_marks
write_passes s row column digit p =
    let on = passed _ 2 _ p in
    let unsolved = passed _ 3 _ on.1 in
    let empty = passed _ 6 _ unsolved.1 in
    let range = passed _ 7 _ empty.1 in
    let absent = passed _ 9 _ range.1 in
    record {
      grid = not-false _ on.0;
      empty = not-true _ (not-false _ empty.0);
      range = not-false _ range.0;
      absent = absent.0;
    }

strike_passes : (s : State) (row column digit : ℕ) → Passes s (StrikeMark row column digit) → Allowed s (StrikeMark row column digit)
unfolding Passes move_tests accepts_marks
strike_passes s row column digit p =
    let on = passed _ 2 _ p in
    let unsolved = passed _ 3 _ on.1 in
    let empty = passed _ 6 _ unsolved.1 in
    let there = passed _ 10 _ empty.1 in
    record { grid = not-false _ on.0; empty = not-true _ (not-false _ empty.0); there = not-false _ there.0 }

pub passes_allowed : (s : State) (m : Move) → Passes s m → Allowed s m
passes_allowed s (Place row column digit) p = place_passes s row column digit p
passes_allowed s (Erase row column) p = erase_passes s row column p
passes_allowed s (WriteMark row column digit) p = write_passes s row column digit p
passes_allowed s (StrikeMark row column digit) p = strike_passes s row column digit p

-- the pencil's move, whichever of the two it is
pub record PencilAllowed (s : State) (row column digit : ℕ) : Type 0 where
  pub grid : on_grid row column ≡ true
  pub empty : holds_digit s.digits (cell_of row column) ≡ false
  pub range : in_range digit ≡ true

pub pencil_passes : (s : State) (row column digit : ℕ) → Passes s (added s (play.Pencil row column digit)) → PencilAllowed s row column digit
unfolding added contains
pencil_passes s row column digit p =
    by_test (contains (note_at s (cell_of row column)) digit)
    (λ t.
    let a = strike_passes s row column digit (subst (Passes s) (pick_true _ _ _ t) p) in
    record { grid = a.grid; empty = a.empty; range = both_left _ _ a.there })
    (λ t.
    let a = write_passes s row column digit (subst (Passes s) (pick_false _ _ _ t) p) in
    record { grid = a.grid; empty = a.empty; range = a.range })

-- what passes: a digit put where no given and not this digit stands,
-- a mark written where it is absent, a mark struck where it stands
pub place_pass : (s : State) (row column digit : ℕ) → on_grid row column ≡ true → is_on s.solved ≡ false → is_given s.given (cell_of row column) ≡ false
    → in_range digit ≡ true → eqb (digit_at s (cell_of row column)) digit ≡ false → Passes s (Place row column digit)
unfolding Passes move_tests
place_pass s row column digit on unsolved free range other =
    no_if (not (on_grid row column)) 3 _ (not_is_false (on_grid row column) on)
    ∙ no_if (is_on s.solved) 4 _ unsolved
    ∙ no_if (is_given s.given (cell_of row column)) 5 _ free
    ∙ no_if (not (in_range digit)) 8 _ (not_is_false (in_range digit) range)
    ∙ no_if (eqb (digit_at s (cell_of row column)) digit) 9 [] other
    ∙ first_none

pub write_pass : (s : State) (row column digit : ℕ) → on_grid row column ≡ true → is_on s.solved ≡ false → holds_digit s.digits (cell_of row column) ≡ false
    → in_range digit ≡ true → contains (note_at s (cell_of row column)) digit ≡ false → Passes s (WriteMark row column digit)
unfolding Passes move_tests accepts_marks
write_pass s row column digit on unsolved empty range absent =
    no_if (not (on_grid row column)) 3 _ (not_is_false (on_grid row column) on)
    ∙ no_if (is_on s.solved) 4 _ unsolved
    ∙ no_if (not (not (holds_digit s.digits (cell_of row column)))) 7 _ (ap (λ (t : Bool). not (not t)) empty)
    ∙ no_if (not (in_range digit)) 8 _ (not_is_false (in_range digit) range)
    ∙ no_if (contains (note_at s (cell_of row column)) digit) 10 [] absent
    ∙ first_none

pub strike_pass : (s : State) (row column digit : ℕ) → on_grid row column ≡ true → is_on s.solved ≡ false → holds_digit s.digits (cell_of row column) ≡ false
    → contains (note_at s (cell_of row column)) digit ≡ true → Passes s (StrikeMark row column digit)
unfolding Passes move_tests accepts_marks
strike_pass s row column digit on unsolved empty there =
    no_if (not (on_grid row column)) 3 _ (not_is_false (on_grid row column) on)
    ∙ no_if (is_on s.solved) 4 _ unsolved
    ∙ no_if (not (not (holds_digit s.digits (cell_of row column)))) 7 _ (ap (λ (t : Bool). not (not t)) empty)
    ∙ no_if (not (contains (note_at s (cell_of row column)) digit)) 11 [] (not_is_false (contains (note_at s (cell_of row column)) digit) there)
    ∙ first_none

-- ---- the book's number

-- the words of the book's tests, opened together
unfoldable booked : ℕ
unfolding refused_by is_of kind_in ordinal cell_named digit_named no_such_cell given_cell no_players_digit marks_not_accepted digit_out_of_range digit_already_stands nothing_to_undo nothing_to_redo journal_full checks_full first pick both either
booked = 0

module _ (k : Book) where
  pub refused_make : (a : Play) → refused_by k (Make a) ≡ first (play_tests (state_in k) a ++ ((eqb k.standing max_moves ⇒ 15) ∷ []))
  unfolding booked play_tests move_tests
  refused_make (play.Place row column digit) = refl
  refused_make (play.Erase row column) = refl
  refused_make (play.Pencil row column digit) = refl

  -- and by the tests of the move that the call adds
  pub refused_added : (a : Play) → refused_by k (Make a) ≡ first (move_tests (state_in k) (added (state_in k) a) ++ ((eqb k.standing max_moves ⇒ 15) ∷ []))
  refused_added a = refused_make a ∙ added_tests (state_in k) a ((eqb k.standing max_moves ⇒ 15) ∷ [])

  pub refused_undo : refused_by k Undo ≡ first ((is_on (state_in k).solved ⇒ 4) ∷ (eqb k.standing 0 ⇒ 12) ∷ [])
  unfolding booked
  refused_undo = refl

  pub refused_redo : refused_by k Redo ≡ first ((is_on (state_in k).solved ⇒ 4) ∷ (eqb k.standing (made k) ⇒ 13) ∷ [])
  unfolding booked
  refused_redo = refl

  pub refused_check : (row column : ℕ) → refused_by k (Check row column) ≡ first ((not (on_grid row column) ⇒ 3) ∷ (is_on (state_in k).solved ⇒ 4) ∷ (not (holds_players_digit (state_in k) (cell_of row column)) ⇒ 6) ∷ (eqb (length k.checks) max_checks ⇒ 16) ∷ [])
  unfolding booked
  refused_check row column = refl

  -- ---- its step

  module _ (c : Call) where
    pub step_taken : refused_by k c ≡ 0 → step k c ≡ taken k c
    unfolding step
    step_taken p = pick_true (eqb (refused_by k c) 0) (taken k c) k (eq-eqb (refused_by k c) 0 p)

    pub step_refused : eqb (refused_by k c) 0 ≡ false → step k c ≡ k
    unfolding step
    step_refused p = pick_false (eqb (refused_by k c) 0) (taken k c) k p

    -- what holds of the book, and of it after an accepted call, holds after the call
    pub after_step : (P : Book → Type 0) → P k → (refused_by k c ≡ 0 → P (taken k c)) → P (step k c)
    after_step P same new =
        by_test (eqb (refused_by k c) 0)
        (λ t. let p = eqb-true (refused_by k c) 0 t in subst P (sym (step_taken p)) (new p)) (λ t. subst P (sym (step_refused t)) same)
