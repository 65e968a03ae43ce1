-- The order on one page: every theorem about the board, its record and its calls, as the fields of one
-- statement. Each field names a statement that stands in a file of its own, named beside it; docs/CLAIMS.md says
-- what else must be believed. The proof is `order` of proofs/Order.antt. Assumes nothing.
use Rattle.demands.specs.Solved.{SolvedTheorem}
use Rattle.demands.specs.Demand3.{Demand3}
use Rattle.demands.specs.PlayTheorem.{PlayTheorem}
use Rattle.demands.specs.Undo.{UndoTheorem}
use Rattle.demands.specs.Readings.{ReadingsTheorem}
use Rattle.demands.specs.Positions.{Positions}
use Rattle.demands.specs.Layouts.{Layouts}
use Rattle.demands.specs.PuzzleLines.{LineTheorem}
use Rattle.demands.specs.Keypad.{KeypadTheorem}
use Rattle.demands.specs.Pencil.{PencilTheorem}

pub record Order : Type 0 where
  -- Solved.antt: a board that calls reach is solved exactly when every row, column and box holds each of 1 to 9 once
  pub solved : SolvedTheorem
  -- Demand3.antt: givens open exactly when none of 1, 19 and 22 to 27 applies. Every answer to every list of play
  -- calls, the board, the memory, the written record, its reopening and the play after it are those of the
  -- book (Book.antt); never more than 1,024 moves and 256 checks are held; and bytes reopen with a solution
  -- exactly when some givens open with it and some list of calls writes them
  pub book : Demand3
  -- PlayTheorem.antt: the list of encoded calls that pawdoku_play runs over the C boundary goes as in the book
  pub calls : PlayTheorem
  -- Undo.antt: what each move does to each digit and each mark; undo gives back digits,
  -- notes and status, each mark where it stood; redo gives the board and the memory after the move
  pub undo : UndoTheorem
  -- Readings.antt: the reading of a move is the book's move and the book's position after it
  pub readings : ReadingsTheorem
  -- Positions.antt: the twelve positions of document 01, computed
  pub positions : Positions
  -- Layouts.antt: slots, stored checks, record items, encoded calls and number 17's cases, byte by byte, computed
  pub layouts : Layouts
  -- PuzzleLines.antt: a written line read back yields the board's givens; a read line that opens, written from its
  -- board after any calls, is that line; what a line yields ascends; a refused call writes nothing
  pub lines : LineTheorem
  -- Keypad.antt: in every list of digits at most nine cells hold a digit and conflict with no peer, and what is left
  -- for its key is nine less those; none is left exactly where each row, column and box holds the digit once, and of no
  -- digit exactly on a solved board; what a digit put into an empty cell does to the keys
  pub keypad : KeypadTheorem
  -- Pencil.antt: no call answers 10 or 11, which stand inside 29 alone, where a record's moves keep their old rules;
  -- the pencil's numbers in their order; and a second press made at once takes the first back, both standing
  pub pencil : PencilTheorem
