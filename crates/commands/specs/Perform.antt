-- What a command of the console does: which call of the library it names, and what it leaves of the board and its
-- lent memory. What a command shows no contract can say.
-- Assumes nothing.
use Rattle.std.specs.Prelude.{ℕ, ◌≡◌, Bool, true, false, Option, Some, None, option_map, ltb, leb, eqb, unwrap_or}
use Rattle.sudoku.specs.Tests.{pick, both}
use Rattle.board.specs.declared.Board.{Board}
use Rattle.play.specs.declared.Play.{Play}
use Rattle.play.specs.declared.Play.TheVariants.{Place, Erase, Pencil}
use Rattle.calls.specs.declared.Call.{Call}
use Rattle.calls.specs.declared.Call.TheVariants.{Make, Undo, Redo, Check}
use Rattle.calls.specs.Session.{Session}
use Rattle.calls.specs.Encoded.{run_one, session}
use Rattle.texts.specs.declared.Verb.{Verb}
use Rattle.texts.specs.declared.Verb.TheVariants as verb
use Rattle.texts.specs.Commands.{number_of, Request}
use Rattle.files.specs.Disk.{Content}
use Rattle.files.specs.Load.{Left, load_of, load_line}
use Rattle.commands.specs.declared.Game.{Game}

-- ---- the numbers after a command

-- a number as a byte: what is no byte is no row, no column and no digit either, and 255 is none of these
unfoldable pub narrowed : ℕ → ℕ
narrowed n = pick (ltb 255 n) 255 n

-- the numbers of a command that wants two or three
pub record Numbers : Type 0 where
  pub row : ℕ
  pub column : ℕ
  pub digit : ℕ

-- the third number of a command, 0 where two are wanted
unfoldable pub third_of : Request → ℕ → Option ℕ
third_of c wanted = pick (eqb wanted 3) (number_of c.third) (Some 0)

-- each is a number
unfoldable pub are_numbers : Option ℕ → Option ℕ → Option ℕ → Option Numbers
are_numbers (Some row) (Some column) (Some digit) = Some (record { row = narrowed row; column = narrowed column; digit = narrowed digit })
are_numbers _ _ _ = None

-- the numbers of a command that wants two or three: as many words as are wanted, and each is a number
unfoldable pub numbers_of : Request → ℕ → Option Numbers
numbers_of c wanted =
    pick (eqb c.words wanted) (are_numbers (number_of c.first) (number_of c.second) (third_of c wanted)) None

-- ---- the call that a command names, by its verb; none where its words are not those that it wants

unfoldable pub is_move : Verb → Bool
is_move verb.Place = true
is_move verb.Mark = true
is_move verb.Erase = true
is_move _ = false

-- how many numbers a move wants: erase two, any other three
unfoldable pub wanted_by : Verb → ℕ
wanted_by verb.Erase = 2
wanted_by _ = 3

unfoldable pub play_named : Verb → Numbers → Play
play_named verb.Place n = Place n.row n.column n.digit
play_named verb.Mark n = Pencil n.row n.column n.digit
play_named _ n = Erase n.row n.column

unfoldable pub move_call : Request → Option Call
move_call c = option_map (λ n. Make (play_named c.verb n)) (numbers_of c (wanted_by c.verb))

-- the call of a command that is a move
unfoldable pub named_move : Request → Option Call
named_move c = pick (is_move c.verb) (move_call c) None

unfoldable pub is_undo : Verb → Bool
is_undo verb.Undo = true
is_undo verb.Redo = true
is_undo _ = false

-- undo, or redo
unfoldable pub step_named : Verb → Call
step_named verb.Undo = Undo
step_named _ = Redo

unfoldable pub undo_call : Request → Option Call
undo_call c = pick (eqb c.words 0) (Some (step_named c.verb)) None

unfoldable pub is_check : Verb → Bool
is_check verb.Check = true
is_check _ = false

unfoldable pub check_call : Request → Option Call
check_call c = option_map (λ n. Check n.row n.column) (numbers_of c 2)

-- any other command names no call
unfoldable pub command_call : Request → Option Call
command_call c =
    pick (is_move c.verb) (move_call c)
    (pick (is_undo c.verb) (undo_call c) (pick (is_check c.verb) (check_call c) None))

-- ---- what a command leaves

-- what is played, as the calls' definitions name it
abbrev pub played : Game → Session
played g = session g.board g.memory.journal g.memory.checks

-- a board that was opened takes the place of the one that is played; where none was, that one stays
unfoldable pub taken_up : Board → Left → Session
taken_up b l = session (unwrap_or l.loaded b) l.journal l.checks

-- open: a file, and another for the solution where a second word names one; else the solution that is played
unfoldable pub open_leaves : Request → Content → Content → Session → Session
open_leaves c file answers s =
    pick (both (leb 1 c.words) (leb c.words 2))
    (taken_up s.board (load_of c.second file answers s.board.solution s.journal s.checks))
    s

-- puzzle: a mailed line and the line of its solution, as two words
unfoldable pub puzzle_leaves : Request → Session → Session
puzzle_leaves c s =
    pick (eqb c.words 2)
    (taken_up s.board (load_line c.first c.second s.journal s.checks))
    s

unfoldable pub is_open : Verb → Bool
is_open verb.Open = true
is_open _ = false

unfoldable pub is_puzzle : Verb → Bool
is_puzzle verb.Puzzle = true
is_puzzle _ = false

-- what the files hold matters to open alone. A command that names no call, as line does, leaves all as it was
unfoldable pub command_leaves : Request → Content → Content → Session → Session
command_leaves c file answers s =
    pick (is_open c.verb) (open_leaves c file answers s)
    (pick (is_puzzle c.verb) (puzzle_leaves c s) (run_one s (command_call c)).left)

-- what is left is what open leaves of some files
pub record Opens (c : Request) (before after : Session) : Type 0 where
  pub file : Content
  pub answers : Content
  pub leaves : after ≡ open_leaves c file answers before

-- what is left is what the command leaves, whatever the files hold that it may name
pub record Performs (c : Request) (before after : Session) : Type 0 where
  pub file : Content
  pub answers : Content
  pub leaves : after ≡ command_leaves c file answers before
