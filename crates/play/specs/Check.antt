-- The check of document 01 (check.rs): refusals 1 2 3 4 6 16, six bytes stored, the verdict answered.
-- Assumes nothing.
use Rattle.std.specs.Prelude.{ℕ, ◌+◌, ◌*◌, Bool, false, not, List, [], ◌∷◌, eqb, length}
use Rattle.puzzle.specs.Givens.{is_on}
use Rattle.sudoku.specs.Tests.{Test, ◌⇒◌, first, pick}
use Rattle.sudoku.specs.Grid.{on_grid, cell_of}
use Rattle.puzzle.specs.declared.Refusal.{Refusal}
use Rattle.puzzle.specs.Refusals.{refusal, accepted}
use Rattle.journal.specs.Limits.{max_checks, check_bytes, check_memory}
use Rattle.journal.specs.Bytes.{over}
use Rattle.journal.specs.State.{digit_at, holds_players_digit}
use Rattle.journal.specs.StoredChecks.{Stored, judge, stored_bytes}
use Rattle.board.specs.declared.Board.{Board}
use Rattle.board.specs.declared.Checked.{Checked}
use Rattle.board.specs.Board.{state_of, counts_of, board_of, lent_tests}

-- 1 2 3 4 6 16
unfoldable pub check_tests : Board → List ℕ → ℕ → ℕ → List Test
check_tests b checks row column =
    lent_tests (eqb (length checks) check_memory) b
    ((not (on_grid row column) ⇒ 3)
    ∷ (is_on b.solved ⇒ 4)
    ∷ (not (holds_players_digit (state_of b) (cell_of row column)) ⇒ 6)
    ∷ (eqb b.checks max_checks ⇒ 16)
    ∷ [])

-- the check of the digit that stands at a cell
unfoldable pub check_on : Board → ℕ → ℕ → Stored
check_on b row column = judge b.solution b.standing row column (digit_at (state_of b) (cell_of row column))

-- what a check answers, and the check memory afterwards
pub record CheckPlayed : Type 0 where
  pub answer : Checked
  pub checks : List ℕ

abbrev pub checked : Refusal → Bool → Board → List ℕ → CheckPlayed
checked r right b checks = record { answer = record { refusal = r; right = right; board = b }; checks = checks }

-- the board with one check more
unfoldable pub with_check : Board → Board
with_check b = board_of (state_of b) b.solution (counts_of b) (b.checks + 1)

unfoldable pub check_of : Board → List ℕ → ℕ → ℕ → CheckPlayed
check_of b checks row column =
    let n = first (check_tests b checks row column) in
    let c = check_on b row column in
    pick (eqb n 0) (checked accepted c.right (with_check b) (over checks (check_bytes * b.checks) (stored_bytes c)))
    (checked (refusal n 0 0) false b checks)
