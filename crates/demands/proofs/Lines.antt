-- A line of play up to a check: from the fresh position, mark 1 written
-- and struck in turn at the check's cell, then the digit placed there.
-- So a check with any standing count from 1 on can be asked, and undoing the line leaves the fresh position.
-- Assumes nothing.
use Prim.Native.Nat.{ℕ, zero, suc}
use mathlib.Core.Path.{◌≡◌, refl, ap, ◌∙◌}
use mathlib.Core.Bool.{Bool, true, false}
use mathlib.Core.List.{List, [], ◌∷◌, ◌++◌}
use native.Mathlib.Omega.{arith}
use lib.Dec.{eqb}
use lib.ListN.{length, length-append}
use borrow.Author.Tests.{eq-eqb, ne_eqb}
use Rattle.journal.proofs.Moves.{flag_off}
use Rattle.puzzle.specs.Givens.{is_on, is_given}
use Rattle.puzzle.proofs.Puzzle.{settled_fresh}
use Rattle.sudoku.specs.Tests.{both, bit}
use Rattle.sudoku.proofs.Walks.{pick_false, not_is_false}
use Rattle.sudoku.specs.Grid.{in_range, on_grid, cell_of, at, put}
use Rattle.sudoku.proofs.Grid.{range_from, at_put, length_put, cell_of_is_cell}
use Rattle.note.specs.Note.{contains, with_mark, without}
use Rattle.note.proofs.Note.{contains_with, contains_without}
use Rattle.puzzle.specs.Puzzle.{holds_digit, is_full, is_consistent, settled}
use Rattle.journal.specs.declared.Move.{Move}
use Rattle.journal.specs.declared.Move.TheVariants.{Place, WriteMark, StrikeMark}
use Rattle.journal.specs.State.{State, digit_at, note_at, with_notes, put_digit, write_at, strike_at, perform}
use Rattle.demands.specs.Book.{perform_all}
use Rattle.demands.proofs.Plays.{Passes, Plays, perform_append, plays_append}
use Rattle.demands.proofs.Refusals.{place_pass, write_pass, strike_pass}

-- n moves that write and strike mark 1 at a position in turn; `stands` says whether the mark stands before them
unfoldable pub turns : ℕ → ℕ → ℕ → Bool → List Move
turns row column zero stands = []
turns row column (suc n) false = WriteMark row column 1 ∷ turns row column n true
turns row column (suc n) true = StrikeMark row column 1 ∷ turns row column n false

-- the line: n turns, then the digit
unfoldable pub line : ℕ → ℕ → ℕ → ℕ → List Move
line row column digit n = turns row column n false ++ (Place row column digit ∷ [])

module _ (row column : ℕ) where
  turns_length : (n : ℕ) (stands : Bool) → length (turns row column n stands) ≡ n
  unfolding turns
  turns_length zero stands = refl
  turns_length (suc n) true = ap suc (turns_length n false)
  turns_length (suc n) false = ap suc (turns_length n true)

  pub line_length : (digit n : ℕ) → length (line row column digit n) ≡ suc n
  unfolding line
  line_length digit n = omega (arith, length-append (turns row column n false) (Place row column digit ∷ []), turns_length n false)

  -- turns change notes alone
  turns_keep : (s : State) (n : ℕ) (stands : Bool) → perform_all s (turns row column n stands) ≡ with_notes s (perform_all s (turns row column n stands)).notes
  unfolding turns perform_all perform with_notes
  turns_keep s zero stands = refl
  turns_keep s (suc n) true = turns_keep (perform s (StrikeMark row column 1)) n false
  turns_keep s (suc n) false = turns_keep (perform s (WriteMark row column 1)) n true

  module _ (on : on_grid row column ≡ true) where
    turns_play : (s : State) (n : ℕ) (stands : Bool) → is_on s.solved ≡ false → holds_digit s.digits (cell_of row column) ≡ false → length s.notes ≡ 81
        → contains (note_at s (cell_of row column)) 1 ≡ stands → Plays s (turns row column n stands)
    unfolding turns Plays perform with_notes write_at strike_at note_at in_range both
    turns_play s zero stands unsolved empty cells p = tt
    turns_play s (suc n) true unsolved empty cells p = (
      strike_pass s row column 1 on unsolved empty p,
      turns_play (perform s (StrikeMark row column 1)) n false unsolved empty
          (length_put s.notes (cell_of row column) (without (at s.notes (cell_of row column)) 1) ∙ cells)
          (ap (λ (note : ℕ). contains note 1) (at_put s.notes (cell_of row column) (without (at s.notes (cell_of row column)) 1) cells (cell_of_is_cell row column on))
          ∙ contains_without (at s.notes (cell_of row column)) 1),
    )
    turns_play s (suc n) false unsolved empty cells p = (
      write_pass s row column 1 on unsolved empty refl p,
      turns_play (perform s (WriteMark row column 1)) n true unsolved empty
          (length_put s.notes (cell_of row column) (with_mark (at s.notes (cell_of row column)) 1) ∙ cells)
          (ap (λ (note : ℕ). contains note 1) (at_put s.notes (cell_of row column) (with_mark (at s.notes (cell_of row column)) 1) cells (cell_of_is_cell row column on))
          ∙ contains_with (at s.notes (cell_of row column)) 1),
    )

-- a cell as the fresh position has it: no given, no digit, no mark 1, in a state that is not solved
pub record Clear (s : State) (cell : ℕ) : Type 0 where
  pub unsolved : is_on s.solved ≡ false
  pub free : is_given s.given cell ≡ false
  pub empty : digit_at s cell ≡ 0
  pub blank : contains (note_at s cell) 1 ≡ false
  pub digits_81 : length s.digits ≡ 81
  pub notes_81 : length s.notes ≡ 81

module _ (s : State) (row column digit n : ℕ) (on : on_grid row column ≡ true) (range : in_range digit ≡ true) (clear : Clear s (cell_of row column)) where
  -- before the digit: the state with other notes
  before_digit : State
  before_digit = with_notes s (perform_all s (turns row column n false)).notes

  digit_passes : Passes before_digit (Place row column digit)
  unfolding before_digit with_notes digit_at
  digit_passes =
      place_pass before_digit row column digit on clear.unsolved clear.free range
      (ne_eqb (at s.digits (cell_of row column)) digit (λ e. omega (arith, range_from digit range, clear.empty)))

  pub line_plays : Plays s (line row column digit n)
  unfolding line Plays before_digit holds_digit digit_at
  line_plays =
      plays_append s (turns row column n false) (Place row column digit ∷ [])
      (turns_play row column on s n false clear.unsolved (not_is_false _ (eq-eqb (at s.digits (cell_of row column)) 0 clear.empty)) clear.notes_81 clear.blank)
      (rw (turns_keep row column s n false) digit_passes, tt)

  -- the state at the end of the line
  line_end_lem : perform_all s (line row column digit n) ≡ perform before_digit (Place row column digit)
  unfolding line perform_all before_digit
  line_end_lem =
      perform_append s (turns row column n false) (Place row column digit ∷ [])
      ∙ ap (λ (t : State). perform t (Place row column digit)) (turns_keep row column s n false)

  pub line_digit : digit_at (perform_all s (line row column digit n)) (cell_of row column) ≡ digit
  unfolding digit_at perform with_notes put_digit before_digit
  line_digit =
      ap (λ (t : State). at t.digits (cell_of row column)) line_end_lem
      ∙ at_put before_digit.digits (cell_of row column) digit clear.digits_81 (cell_of_is_cell row column on)

  pub line_free : is_given (perform_all s (line row column digit n)).given (cell_of row column) ≡ false
  unfolding perform with_notes put_digit before_digit
  line_free = ap (λ (t : State). is_given t.given (cell_of row column)) line_end_lem ∙ clear.free

  -- whether the digit solves the board: all other cells are as they were
  pub line_solved : (perform_all s (line row column digit n)).solved
      ≡ bit (both (is_full (put s.digits (cell_of row column) digit)) (is_consistent (put s.digits (cell_of row column) digit)))
  unfolding perform with_notes put_digit before_digit
  line_solved =
      ap (λ (t : State). t.solved) line_end_lem
      ∙ pick_false (eqb digit 0) s.solved (settled (put s.digits (cell_of row column) digit) s.solved) (ne_eqb digit 0 (λ e. omega (arith, range_from digit range)))
      ∙ ap (settled (put s.digits (cell_of row column) digit)) (flag_off _ clear.unsolved)
      ∙ settled_fresh _
