-- Opening a board of document 01: refusals 1, 19, 22 to 27, the fresh board, and what the lent memory holds afterwards.
-- Assumes nothing.
use Rattle.std.specs.Prelude.{ℕ, ◌%◌, ◌≡◌, Bool, List, eqb, length, replicate}
use Rattle.sudoku.specs.Tests.{pick, both}
use Rattle.puzzle.specs.declared.Refusal.{Refusal}
use Rattle.puzzle.specs.declared.Given.{Given}
use Rattle.puzzle.specs.Refusals.{refusal, accepted, is_accepted}
use Rattle.puzzle.specs.Givens.{triples}
use Rattle.puzzle.specs.Vouch.{well_posed}
use Rattle.journal.specs.Limits.{journal_bytes, check_memory}
use Rattle.board.specs.declared.Board.{Board}
use Rattle.board.specs.declared.Answer.{Answer}
use Rattle.board.specs.Board.{fresh, zero_board}

abbrev pub answer : Refusal → Board → Answer
answer r b = record { refusal = r; board = b }

-- what opening and reopening answer, and both lent memories afterwards
pub record Opened : Type 0 where
  pub answer : Answer
  pub journal : List ℕ
  pub checks : List ℕ

-- a call answers `a` and leaves `j` in the journal and `c` in the check memory, as `o` says
pub record Gives (o : Opened) (a : Answer) (j c : List ℕ) : Type 0 where
  pub answer : a ≡ o.answer
  pub journal : j ≡ o.journal
  pub checks : c ≡ o.checks

-- lent memory of zeros
unfoldable pub no_moves : List ℕ
no_moves = replicate journal_bytes 0

unfoldable pub no_checks : List ℕ
no_checks = replicate check_memory 0

-- refused by 1: the memory stays as it was
unfoldable pub wrong_length : List ℕ → List ℕ → Opened
wrong_length journal checks = record { answer = answer (refusal 1 0 0) zero_board; journal = journal; checks = checks }

-- refused by anything else: the memory is zero
unfoldable pub turned_away : Refusal → Opened
turned_away r = record { answer = answer r zero_board; journal = no_moves; checks = no_checks }

-- the fresh board, and memory of zeros
unfoldable pub opened_fresh : List Given → List ℕ → Opened
opened_fresh gs solution = record { answer = answer accepted (fresh gs solution); journal = no_moves; checks = no_checks }

-- the answer to givens and a solution of the right lengths: 19, 22 to 27, else the fresh board
unfoldable pub posed : List Given → List ℕ → Answer
posed gs solution = let r = well_posed gs solution in pick (is_accepted r) (answer accepted (fresh gs solution)) (answer r zero_board)

-- number 1 of what is lent to opening and reopening: journal, check memory and solution have their lengths
unfoldable pub lent_lengths : List ℕ → List ℕ → List ℕ → Bool
lent_lengths solution journal checks =
    both (eqb (length journal) journal_bytes) (both (eqb (length checks) check_memory) (eqb (length solution) 81))

-- 1; 19, 22 to 27; else the fresh board
unfoldable pub open_of : List ℕ → List ℕ → List ℕ → List ℕ → Opened
open_of givens solution journal checks =
    let r = well_posed (triples givens) solution in
    pick (both (lent_lengths solution journal checks) (eqb (length givens % 3) 0))
    (pick (is_accepted r) (opened_fresh (triples givens) solution) (turned_away r))
    (wrong_length journal checks)
