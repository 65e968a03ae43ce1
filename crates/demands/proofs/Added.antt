-- The move that a call adds: it is the one that the call's definition makes, its tests are the call's, and each move
-- that passes is what the call adds that asks for it.
-- Assumes nothing.
use Prim.Native.Nat.{ℕ}
use mathlib.Core.Path.{◌≡◌, refl, sym, ap, ◌∙◌}
use mathlib.Core.Bool.{Bool, true, false, not}
use mathlib.Core.List.{List, ◌∷◌, ◌++◌}
use Rattle.puzzle.specs.Givens.{is_on}
use Rattle.sudoku.specs.Tests.{Test, ◌⇒◌, first, pick}
use Rattle.sudoku.specs.Grid.{in_range, on_grid, cell_of}
use Rattle.sudoku.proofs.Walks.{by_test, no_if, both_left, not_is_false, pick_true, pick_false}
use Rattle.note.specs.Note.{contains}
use Rattle.journal.specs.declared.Move.{Move}
use Rattle.journal.specs.declared.Move.TheVariants.{Place, Erase, WriteMark, StrikeMark}
use Rattle.journal.specs.State.{State, note_at, accepts_marks}
use Rattle.journal.proofs.Moves.{Allowed}
use Rattle.play.specs.declared.Play.{Play}
use Rattle.play.specs.declared.Play.TheVariants as play
use Rattle.play.specs.Play.{move_tests, move_for, play_tests}
use Rattle.demands.specs.Book.{added}

-- the call's definition makes the book's move
pub same_move : (s : State) (a : Play) → move_for s a ≡ added s a
unfolding move_for added
same_move s (play.Place row column digit) = refl
same_move s (play.Erase row column) = refl
same_move s (play.Pencil row column digit) = refl

-- ---- the tests of the move are those of the call

-- two lists that begin with the pencil's first three tests
after_three : (a b c : Bool) (ts us : List Test) → first ts ≡ first us
    → first ((a ⇒ 3) ∷ (b ⇒ 4) ∷ (c ⇒ 7) ∷ ts) ≡ first ((a ⇒ 3) ∷ (b ⇒ 4) ∷ (c ⇒ 7) ∷ us)
unfolding first
after_three a b c ts us e = ap (λ (n : ℕ). pick a 3 (pick b 4 (pick c 7 n))) e

module _ (s : State) (row column digit : ℕ) (last : List Test) where
  -- a mark that is present: its digit is in range, and neither 11 nor 8 applies
  present : contains (note_at s (cell_of row column)) digit ≡ true → first (move_tests s (StrikeMark row column digit) ++ last) ≡ first (play_tests s (play.Pencil row column digit) ++ last)
  unfolding play_tests move_tests contains
  present t =
      after_three (not (on_grid row column)) (is_on s.solved) (not (accepts_marks s (cell_of row column))) _ _
      (no_if (not (contains (note_at s (cell_of row column)) digit)) 11 last (not_is_false (contains (note_at s (cell_of row column)) digit) t)
      ∙ sym (no_if (not (in_range digit)) 8 last (not_is_false (in_range digit) (both_left _ _ t))))

  -- one that is absent: 10 does not apply
  absent : contains (note_at s (cell_of row column)) digit ≡ false → first (move_tests s (WriteMark row column digit) ++ last) ≡ first (play_tests s (play.Pencil row column digit) ++ last)
  unfolding play_tests move_tests first
  absent t =
      after_three (not (on_grid row column)) (is_on s.solved) (not (accepts_marks s (cell_of row column)))
      ((not (in_range digit) ⇒ 8) ∷ (contains (note_at s (cell_of row column)) digit ⇒ 10) ∷ last) ((not (in_range digit) ⇒ 8) ∷ last)
      (ap (λ (n : ℕ). pick (not (in_range digit)) 8 n) (no_if (contains (note_at s (cell_of row column)) digit) 10 last t))

-- whatever tests follow
pub added_tests : (s : State) (a : Play) (last : List Test) → first (play_tests s a ++ last) ≡ first (move_tests s (added s a) ++ last)
unfolding play_tests added
added_tests s (play.Place row column digit) last = refl
added_tests s (play.Erase row column) last = refl
added_tests s (play.Pencil row column digit) last =
    by_test (contains (note_at s (cell_of row column)) digit)
    (λ t. sym (present s row column digit last t) ∙ ap (λ (m : Move). first (move_tests s m ++ last)) (sym (pick_true _ _ _ t)))
    (λ t. sym (absent s row column digit last t) ∙ ap (λ (m : Move). first (move_tests s m ++ last)) (sym (pick_false _ _ _ t)))

-- ---- the call that asks for a move

unfoldable pub ask_for : Move → Play
ask_for (Place row column digit) = play.Place row column digit
ask_for (Erase row column) = play.Erase row column
ask_for (WriteMark row column digit) = play.Pencil row column digit
ask_for (StrikeMark row column digit) = play.Pencil row column digit

-- it adds that move, where the move is allowed
pub asked_added : (s : State) (m : Move) → Allowed s m → added s (ask_for m) ≡ m
unfolding added ask_for
asked_added s (Place row column digit) a = refl
asked_added s (Erase row column) a = refl
asked_added s (WriteMark row column digit) a = pick_false _ _ _ a.absent
asked_added s (StrikeMark row column digit) a = pick_true _ _ _ a.there
