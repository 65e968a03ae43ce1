-- Readings of document 01 (reading.rs, moves.rs): for move k its kind, target, digit, whether undone, its index, and
-- digits and notes after slots 1 to k are applied, as recorded, to the givens and empty notes. Refusals 1, 2, 14, 35.
-- Assumes nothing.
use Rattle.std.specs.Prelude.{ℕ, false, not, List, leb, ltb, eqb, length, replicate}
use Rattle.puzzle.specs.Givens.{is_given}
use Rattle.sudoku.specs.Tests.{pick, both, run, listed}
use Rattle.sudoku.specs.Grid.{at}
use Rattle.puzzle.specs.declared.Refusal.{Refusal}
use Rattle.puzzle.specs.Refusals.{refusal, accepted, is_accepted, refused_if, or_else}
use Rattle.journal.specs.Limits.{journal_bytes}
use Rattle.journal.specs.State.{State, perform_again}
use Rattle.journal.specs.Slots.{slot_at, move_of}
use Rattle.board.specs.declared.Board.{Board}
use Rattle.board.specs.Board.{counts_of, moved}
use Rattle.play.specs.Play.{journal_refusal}
use Rattle.readings.specs.declared.Reading.{Reading}

-- the board's givens and empty notes
unfoldable pub opening_of : Board → State
opening_of b =
    record {
      given = b.given;
      digits = listed (λ cell. pick (is_given b.given cell) (at b.digits cell) 0) 81 1;
      notes = replicate 81 0;
      solved = 0;
    }

-- the same as a board: its solution, its counts and the number of its checks stay
unfoldable pub opening_board : Board → Board
opening_board b = moved b (opening_of b) (counts_of b)

-- the state with slot n applied, as recorded
unfoldable pub apply_slot : List ℕ → State → ℕ → State
apply_slot journal s n =
    let slot = slot_at journal n in
    perform_again s (move_of slot) slot.struck

-- the state after slots 1 to k
unfoldable pub state_after : Board → List ℕ → ℕ → State
state_after b journal k = run (apply_slot journal) (opening_of b) k 1

-- the same as a board: its solution, its counts and the number of its checks stay
unfoldable pub board_after : Board → List ℕ → ℕ → Board
board_after b journal k = moved b (state_after b journal k) (counts_of b)

-- 1; 2; 14 for any of the slots 1 to made, place naming the first; 35 A reading's k is 0 or above made
unfoldable pub reading_refusal : Board → List ℕ → ℕ → Refusal
reading_refusal b journal k =
    or_else (journal_refusal (eqb (length journal) journal_bytes) b journal)
    (refused_if (not (both (leb 1 k) (leb k b.made))) (refusal 35 0 0))

-- the reading of move k: undone when k is above standing
unfoldable pub reading : Board → List ℕ → ℕ → Reading
reading b journal k =
    let slot = slot_at journal k in
    let s = state_after b journal k in
    record {
      refusal = accepted;
      kind = slot.kind;
      row = slot.row;
      column = slot.column;
      digit = slot.digit;
      undone = ltb b.standing k;
      index = k;
      digits = s.digits;
      notes = s.notes;
    }

unfoldable pub no_reading : Refusal → Reading
no_reading r =
    record {
      refusal = r;
      kind = 0;
      row = 0;
      column = 0;
      digit = 0;
      undone = false;
      index = 0;
      digits = replicate 81 0;
      notes = replicate 81 0;
    }

unfoldable pub reading_of : Board → List ℕ → ℕ → Reading
reading_of b journal k =
    let r = reading_refusal b journal k in
    pick (is_accepted r) (reading b journal k) (no_reading r)
