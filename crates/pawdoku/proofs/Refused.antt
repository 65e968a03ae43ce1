-- A call that makes a move on a journal of another length is refused by 1, whatever the call and the board are.
-- Assumes nothing.
use Prim.Native.Nat.{ℕ}
use mathlib.Core.Path.{◌≡◌}
use mathlib.Core.List.{List}
use borrow.Author.Tests.{ne_eqb}
use lib.ListN.{length}
use Rattle.board.specs.Board.{lent_tests}
use Rattle.sudoku.specs.Tests.{first, pick}
use Rattle.puzzle.specs.Refusals.{refusal}
use Rattle.journal.specs.Limits.{journal_bytes}
use Rattle.board.specs.declared.Board.{Board}
use Rattle.play.specs.declared.Play.{Play}
use Rattle.play.specs.Play.{played, call_tests, play_of}

pub refused_by_length : (b : Board) (journal : List ℕ) (p : Play) → (length journal ≡ journal_bytes → ⊥)
    → play_of b journal p ≡ played (refusal 1 0 0) b journal
unfolding play_of call_tests lent_tests first pick
refused_by_length b journal p h = rw (ne_eqb (length journal) journal_bytes h)
