-- Lists of play calls as bytes, and their run.
-- A call is four bytes: which call it is, row, column, digit. Bytes that a call does not use are ignored.
-- Any other first byte encodes no call: it is answered by number 255 and changes nothing.
-- An answer is four bytes: the number, the place (two bytes, low first), the verdict (1 for right, else 0).
-- No play call has an inner number.
-- As many calls are run as there are whole groups of four both in the calls' bytes and in the answers' bytes;
-- a last incomplete group is ignored, and answer bytes beyond the last answer stay as they were.
-- Assumes nothing.
use Rattle.std.specs.Prelude.{ℕ, ◌+◌, ◌*◌, ◌/◌, min, Bool, false, List, [], ◌∷◌, ◌++◌, eqb, length, get_or, Option, Some, None}
use Rattle.sudoku.specs.Tests.{pick, bit, listed}
use Rattle.puzzle.specs.declared.Refusal.{Refusal}
use Rattle.puzzle.specs.Refusals.{refusal}
use Rattle.journal.specs.Bytes.{over, low, second}
use Rattle.board.specs.declared.Board.{Board}
use Rattle.play.specs.declared.Play.TheVariants.{Place, Erase, Pencil}
use Rattle.calls.specs.declared.Call.{Call}
use Rattle.calls.specs.declared.Call.TheVariants.{Make, Undo, Redo, Check}
use Rattle.calls.specs.Session.{Session, Said, Called, called, call_of}

-- bytes of a call, and of its answer
abbrev pub call_bytes : ℕ
call_bytes = 4

-- a call's first byte, apart from every kind of move
abbrev pub call_place : ℕ
call_place = 16

abbrev pub call_erase : ℕ
call_erase = 17

abbrev pub call_pencil : ℕ
call_pencil = 18

abbrev pub call_undo : ℕ
call_undo = 19

abbrev pub call_redo : ℕ
call_redo = 20

abbrev pub call_check : ℕ
call_check = 21

-- the number that answers bytes that encode no call
abbrev pub no_call : ℕ
no_call = 255

-- what four bytes encode: a call that is no move, or nothing
unfoldable pub decode_other : ℕ → ℕ → ℕ → Option Call
decode_other kind row column =
    pick (eqb kind call_undo) (Some Undo) (pick (eqb kind call_redo) (Some Redo) (pick (eqb kind call_check) (Some (Check row column)) None))

-- what four bytes encode
unfoldable pub decode : ℕ → ℕ → ℕ → ℕ → Option Call
decode kind row column digit =
    pick (eqb kind call_place) (Some (Make (Place row column digit)))
    (pick (eqb kind call_erase) (Some (Make (Erase row column)))
    (pick (eqb kind call_pencil) (Some (Make (Pencil row column digit))) (decode_other kind row column)))

-- what group i encodes, counted from 0
unfoldable pub decode_at : List ℕ → ℕ → Option Call
decode_at bytes i =
    decode (get_or bytes (call_bytes * i) 0) (get_or bytes (call_bytes * i + 1) 0) (get_or bytes (call_bytes * i + 2) 0) (get_or bytes (call_bytes * i + 3) 0)

-- what all whole groups encode
unfoldable pub decoded : List ℕ → List (Option Call)
decoded bytes = listed (decode_at bytes) (length bytes / call_bytes) 0

-- a call's four bytes, 0 where its kind uses none, and those of a list of calls
unfoldable pub encode : Call → List ℕ
encode (Make (Place row column digit)) = call_place ∷ row ∷ column ∷ digit ∷ []
encode (Make (Erase row column)) = call_erase ∷ row ∷ column ∷ 0 ∷ []
encode (Make (Pencil row column digit)) = call_pencil ∷ row ∷ column ∷ digit ∷ []
encode Undo = call_undo ∷ 0 ∷ 0 ∷ 0 ∷ []
encode Redo = call_redo ∷ 0 ∷ 0 ∷ 0 ∷ []
encode (Check row column) = call_check ∷ row ∷ column ∷ 0 ∷ []

unfoldable pub encoded : List Call → List ℕ
encoded [] = []
encoded (c ∷ cs) = encode c ++ encoded cs

-- how many calls are run
unfoldable pub groups : ℕ → ℕ → ℕ
groups calls answers = min (calls / call_bytes) (answers / call_bytes)

-- one group run: its call, or nothing
unfoldable pub run_one : Session → Option Call → Called
run_one s (Some c) = call_of s c
run_one s None = called (refusal no_call 0 0) false s.board s.journal s.checks

-- what the groups leave, and what each of them is answered
unfoldable pub left_by : Session → List (Option Call) → Session
left_by s [] = s
left_by s (d ∷ ds) = left_by (run_one s d).left ds

unfoldable pub said_to : Session → List (Option Call) → List Said
said_to s [] = []
said_to s (d ∷ ds) = (run_one s d).said ∷ said_to (run_one s d).left ds

-- an answer's four bytes, and those of a list of answers
unfoldable pub answer_bytes : Said → List ℕ
answer_bytes a = a.refusal.number ∷ low a.refusal.place ∷ second a.refusal.place ∷ bit a.right ∷ []

unfoldable pub answers_bytes : List Said → List ℕ
answers_bytes [] = []
answers_bytes (a ∷ rest) = answer_bytes a ++ answers_bytes rest

-- what a run leaves: the board with its lent memory, and the answers' bytes
pub record Ran : Type 0 where
  pub left : Session
  pub answers : List ℕ

abbrev pub ran : Session → List ℕ → Ran
ran left answers = record { left = left; answers = answers }

-- the groups from group i on, n of them, run and answered from there on
unfoldable pub run_from : List ℕ → Session → List ℕ → ℕ → ℕ → Ran
run_from calls s answers n i =
    let ds = listed (decode_at calls) n i in
    ran (left_by s ds) (over answers (call_bytes * i) (answers_bytes (said_to s ds)))

-- the run of all whole groups
unfoldable pub run_of : Session → List ℕ → List ℕ → Ran
run_of s calls answers = run_from calls s answers (groups (length calls) (length answers)) 0

-- values of these records, by their fields
abbrev pub session : Board → List ℕ → List ℕ → Session
session board journal checks = record { board = board; journal = journal; checks = checks }

abbrev pub said : Refusal → Bool → Said
said r right = record { refusal = r; right = right }
