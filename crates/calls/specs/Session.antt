-- A list of play calls: each call gets the board and memory that the last one returned or left, refused or not.
-- The calls are those of the board's definitions.
-- Assumes nothing.
use Rattle.std.specs.Prelude.{ℕ, Bool, false, List, [], ◌∷◌}
use Rattle.puzzle.specs.declared.Refusal.{Refusal}
use Rattle.board.specs.declared.Board.{Board}
use Rattle.board.specs.Open.{Opened}
use Rattle.play.specs.Play.{play_of, undo_of, redo_of}
use Rattle.play.specs.Check.{check_of}
use Rattle.calls.specs.declared.Call.{Call}
use Rattle.calls.specs.declared.Call.TheVariants.{Make, Undo, Redo, Check}

-- a board with its lent memory
pub record Session : Type 0 where
  pub board : Board
  pub journal : List ℕ
  pub checks : List ℕ

-- what a call answers: number, place, inner number; and the verdict of a check, false for any other call
pub record Said : Type 0 where
  pub refusal : Refusal
  pub right : Bool

-- one call's answer, and what it leaves
pub record Called : Type 0 where
  pub said : Said
  pub left : Session

unfoldable pub called : Refusal → Bool → Board → List ℕ → List ℕ → Called
called r right b journal checks =
    record { said = record { refusal = r; right = right }; left = record { board = b; journal = journal; checks = checks } }

unfoldable pub call_of : Session → Call → Called
call_of s (Make p) =
    let x = play_of s.board s.journal p in
    called x.answer.refusal false x.answer.board x.journal s.checks
call_of s Undo =
    let a = undo_of s.board s.journal in
    called a.refusal false a.board s.journal s.checks
call_of s Redo =
    let a = redo_of s.board s.journal in
    called a.refusal false a.board s.journal s.checks
call_of s (Check row column) =
    let c = check_of s.board s.checks row column in
    called c.answer.refusal c.answer.right c.answer.board s.journal c.checks

-- what the calls leave, and what each of them answers
unfoldable pub after : Session → List Call → Session
after s [] = s
after s (c ∷ cs) = after (call_of s c).left cs

unfoldable pub answers : Session → List Call → List Said
answers s [] = []
answers s (c ∷ cs) = (call_of s c).said ∷ answers (call_of s c).left cs

-- the session that opening or reopening leaves
unfoldable pub started : Opened → Session
started o = record { board = o.answer.board; journal = o.journal; checks = o.checks }
