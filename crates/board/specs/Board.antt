-- The board value and its test, number 2.
-- Assumes nothing.
use Rattle.std.specs.Prelude.{ℕ, Bool, not, List, ◌∷◌, leb, eqb, replicate}
use Rattle.sudoku.specs.Tests.{Test, ◌⇒◌, both, every}
use Rattle.sudoku.specs.Grid.{in_range, at}
use Rattle.note.specs.Note.{is_note}
use Rattle.puzzle.specs.declared.Given.{Given}
use Rattle.puzzle.specs.Givens.{is_on}
use Rattle.journal.specs.Limits.{max_moves, max_checks}
use Rattle.journal.specs.declared.Counts.{Counts}
use Rattle.journal.specs.Counts.{counts}
use Rattle.journal.specs.State.{State, opening}
use Rattle.board.specs.declared.Board.{Board}

-- a board of its parts
abbrev pub whole : List ℕ → List ℕ → List ℕ → List ℕ → ℕ → ℕ → ℕ → ℕ → Board
whole digits given notes solution solved made standing checks =
    record {
      digits = digits;
      given = given;
      notes = notes;
      solution = solution;
      solved = solved;
      made = made;
      standing = standing;
      checks = checks;
    }

-- what moves read and change of a board
unfoldable pub state_of : Board → State
state_of b = record { given = b.given; digits = b.digits; notes = b.notes; solved = b.solved }

unfoldable pub counts_of : Board → Counts
counts_of b = counts b.made b.standing

-- a board of a state, a solution, the journal's counts and the number of checks
unfoldable pub board_of : State → List ℕ → Counts → ℕ → Board
board_of s solution c checks =
    record {
      digits = s.digits;
      given = s.given;
      notes = s.notes;
      solution = solution;
      solved = s.solved;
      made = c.made;
      standing = c.standing;
      checks = checks;
    }

-- the board after a move: another state and other counts, the same solution and checks
unfoldable pub moved : Board → State → Counts → Board
moved b s c = board_of s b.solution c b.checks

-- no digit above 9, no flag other than 0 and 1, no given with digit 0
unfoldable pub may_stand : ℕ → ℕ → Bool
may_stand digit flag = both (leb digit 9) (both (leb flag 1) (not (both (is_on flag) (eqb digit 0))))

-- of a cell of the board value: its digit and its flag
unfoldable pub digit_value : List ℕ → List ℕ → ℕ → Bool
digit_value digits given cell = may_stand (at digits cell) (at given cell)

-- no note bit other than 1 to 9
unfoldable pub note_value : List ℕ → ℕ → Bool
note_value notes cell = is_note (at notes cell)

-- no solution digit outside 1 to 9
unfoldable pub solution_value : List ℕ → ℕ → Bool
solution_value solution cell = in_range (at solution cell)

-- number 2 speaks of board values for which this does not hold: made above 1,024,
-- standing above made, checks above 256, a status other than 0 and 1, or a cell's values
unfoldable pub is_board : Board → Bool
is_board b =
    both (leb b.made max_moves)
    (both (leb b.standing b.made)
    (both (leb b.checks max_checks)
    (both (leb b.solved 1)
    (both (every (digit_value b.digits b.given) 81 1)
    (both (every (note_value b.notes) 81 1) (every (solution_value b.solution) 81 1))))))

-- 1 and 2, which every call with a board and lent memory tests
-- first: whether what is lent has its length, and the board value
unfoldable pub lent_tests : Bool → Board → List Test → List Test
lent_tests fits b tests = (not fits ⇒ 1) ∷ (not (is_board b) ⇒ 2) ∷ tests

-- the fresh board of givens and their solution
unfoldable pub fresh : List Given → List ℕ → Board
fresh gs solution = board_of (opening gs) solution (counts 0 0) 0

-- a refused opening hands back a board with every field 0, unsolved
unfoldable pub zero_board : Board
zero_board =
    record {
      digits = replicate 81 0;
      given = replicate 81 0;
      notes = replicate 81 0;
      solution = replicate 81 0;
      solved = 0;
      made = 0;
      standing = 0;
      checks = 0;
    }
