-- What a move does, and that undo gives it all back: the statement. On every board that calls reach, from an
-- opening or from a reopening: what an accepted move does to each digit and to each mark, point by point; that
-- its undo gives back the digits, the notes and the status as they were, each mark where it stood; and that redo
-- gives the board and the memory after it. So do undo and redo of any move, one after the other.
-- The proof stands elsewhere. Assumes nothing.
use Rattle.std.specs.Prelude.{ℕ, ◌+◌, ◌≡◌, Bool, true, false, not, [], ◌∷◌, eqb}
use Rattle.sudoku.specs.Tests.{pick, both}
use Rattle.sudoku.specs.Grid.{cell_of, is_cell, are_peers, at}
use Rattle.note.specs.Note.{contains}
use Rattle.puzzle.specs.Refusals.{refusal, accepted}
use Rattle.board.specs.declared.Board.{Board}
use Rattle.play.specs.declared.Play.{Play}
use Rattle.play.specs.declared.Play.TheVariants.{Place, Erase, Pencil}
use Rattle.calls.specs.declared.Call.{Call}
use Rattle.calls.specs.declared.Call.TheVariants.{Make, Undo, Redo}
use Rattle.calls.specs.Session.{Session, Said, after, answers}
use Rattle.calls.specs.Encoded.{said}
use Rattle.demands.specs.Demand3.{Reached}

-- the digit at a cell after a move: a place puts its digit at its target,
-- an erase empties it; every other cell keeps what it held, and the pencil changes no digit
unfoldable pub digit_after : Board → Play → ℕ → ℕ
digit_after b (Place row column digit) cell = pick (eqb cell (cell_of row column)) digit (at b.digits cell)
digit_after b (Erase row column) cell = pick (eqb cell (cell_of row column)) 0 (at b.digits cell)
digit_after b (Pencil row column digit) cell = at b.digits cell

-- whether mark d stands at a cell of the board
unfoldable pub marked : Board → ℕ → ℕ → Bool
marked b cell d = contains (at b.notes cell) d

-- and after a move: a place strikes its digit at every peer of its target, filled peers too, and no other mark
-- anywhere; an erase strikes none; the pencil turns one mark of its target round, and every other mark stays
unfoldable pub mark_after : Board → Play → ℕ → ℕ → Bool
mark_after b (Place row column digit) cell d = both (marked b cell d) (not (both (eqb d digit) (are_peers (cell_of row column) cell)))
mark_after b (Erase row column) cell d = marked b cell d
mark_after b (Pencil row column digit) cell d = pick (both (eqb d digit) (eqb cell (cell_of row column))) (not (marked b cell d)) (marked b cell d)

-- what an accepted call is answered that is no check, and what one that is refused by a number
unfoldable pub yes : Said
yes = said accepted false

unfoldable pub no : ℕ → Said
no n = said (refusal n 0 0) false

-- the board after a move, at each cell and for each mark; givens, solution and checks stay
pub record Does (b : Board) (p : Play) (now : Board) : Type 0 where
  pub digits : (cell : ℕ) → is_cell cell ≡ true → at now.digits cell ≡ digit_after b p cell
  pub marks : (cell d : ℕ) → is_cell cell ≡ true → marked now cell d ≡ mark_after b p cell d
  pub given : now.given ≡ b.given
  pub solution : now.solution ≡ b.solution
  pub checks : now.checks ≡ b.checks
  pub standing : now.standing ≡ b.standing + 1
  pub made : now.made ≡ b.standing + 1

-- a board as it was before the latest move, which can be made again
pub record AsItWas (b now : Board) : Type 0 where
  pub digits : now.digits ≡ b.digits
  pub notes : now.notes ≡ b.notes
  pub status : now.solved ≡ b.solved
  pub given : now.given ≡ b.given
  pub solution : now.solution ≡ b.solution
  pub checks : now.checks ≡ b.checks
  pub standing : now.standing ≡ b.standing
  pub made : now.made ≡ b.standing + 1

-- an accepted move that did not solve the board, its undo and its redo: all accepted;
-- undo gives back what stood before the move, redo the board and the memory after it
pub record TakenBack (s : Session) (p : Play) : Type 0 where
  pub answered : answers s (Make p ∷ Undo ∷ Redo ∷ []) ≡ yes ∷ yes ∷ yes ∷ []
  pub back : AsItWas s.board (after s (Make p ∷ Undo ∷ [])).board
  pub again : after s (Make p ∷ Undo ∷ Redo ∷ []) ≡ after s (Make p ∷ [])

-- an accepted move that solved the board is final: its undo is refused by 4 and changes nothing
pub record Final (s : Session) (p : Play) : Type 0 where
  pub answered : answers s (Make p ∷ Undo ∷ []) ≡ yes ∷ no 4 ∷ []
  pub stays : after s (Make p ∷ Undo ∷ []) ≡ after s (Make p ∷ [])

-- two calls, both accepted, that leave the board and the memory as they were
pub record Cancel (s : Session) (one other : Call) : Type 0 where
  pub answered : answers s (one ∷ other ∷ []) ≡ yes ∷ yes ∷ []
  pub stays : after s (one ∷ other ∷ []) ≡ s

pub record UndoTheorem : Type 0 where
  pub does :
      (s : Session) (p : Play)
      → Reached s
      → answers s (Make p ∷ []) ≡ yes ∷ []
      → Does s.board p (after s (Make p ∷ [])).board
  pub back :
      (s : Session) (p : Play)
      → Reached s
      → answers s (Make p ∷ []) ≡ yes ∷ []
      → (after s (Make p ∷ [])).board.solved ≡ 0
      → TakenBack s p
  pub final :
      (s : Session) (p : Play)
      → Reached s
      → answers s (Make p ∷ []) ≡ yes ∷ []
      → (after s (Make p ∷ [])).board.solved ≡ 1
      → Final s p
  -- any accepted undo, however long ago its move was made, and its redo; and the other way round
  pub undo_redo : (s : Session) → Reached s → answers s (Undo ∷ []) ≡ yes ∷ [] → Cancel s Undo Redo
  pub redo_undo : (s : Session) → Reached s → answers s (Redo ∷ []) ≡ yes ∷ [] → Cancel s Redo Undo
