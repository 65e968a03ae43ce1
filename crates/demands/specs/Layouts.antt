-- The layouts of document 01, byte by byte, as rows of one statement: slots, stored checks, the record's
-- items, encoded calls with their answers, and number 17's cases with their places. A row has different
-- numbers in every field, and says both which bytes are written and what is read of these bytes, so that
-- a layout changed in writing and reading alike, as by a swap of row and column, breaks it.
-- The proof stands elsewhere. Assumes nothing.
use Rattle.std.specs.Prelude.{ℕ, ◌+◌, ◌-◌, ◌*◌, ◌^◌, ◌<◌, ◌≡◌, true, false, List, [], ◌∷◌, ◌++◌, replicate, Some, None}
use Rattle.puzzle.specs.Refusals.{refusal, accepted}
use Rattle.puzzle.specs.Givens.{triples}
use Rattle.journal.specs.declared.Move.{Move}
use Rattle.journal.specs.declared.Move.TheVariants.{Place, Erase, WriteMark, StrikeMark}
use Rattle.journal.specs.declared.Slot.{Slot}
use Rattle.journal.specs.Limits.{slot_bytes, check_bytes}
use Rattle.journal.specs.Bytes.{part}
use Rattle.journal.specs.Counts.{counts}
use Rattle.journal.specs.Slots.{slot_part, slot_at, move_of}
use Rattle.journal.specs.StoredChecks.{Stored, verdict_byte, stored_at}
use Rattle.board.specs.Board.{state_of, board_of}
use Rattle.board.specs.Open.{opened_fresh, no_moves, no_checks}
use Rattle.record.specs.Items.{Parts, record_of}
use Rattle.record.specs.Scan.{malformed, parts_of_bytes}
use Rattle.play.specs.declared.Play.TheVariants as play
use Rattle.calls.specs.declared.Call.{Call}
use Rattle.calls.specs.declared.Call.TheVariants.{Make, Undo, Redo, Check}
use Rattle.calls.specs.Session.{Session, after, started}
use Rattle.calls.specs.Encoded.{call_bytes, encode, decode, decode_at, answer_bytes, said}
use Rattle.demands.specs.Positions.{solution_g, givens_e, place, pencil}

-- the fresh board of E
unfoldable pub fresh_e : Session
fresh_e = started (opened_fresh (triples givens_e) solution_g)

-- ---- slots: kind, row, column, digit, digit before, and the mask, three bytes, low first

-- slot n as a journal holds it, and the same bytes read in a journal of zeros
pub record SlotRow (journal : List ℕ) (n : ℕ) (bytes : List ℕ) (slot : Slot) (m : Move) : Type 0 where
  pub written : part journal (slot_bytes * (n - 1)) slot_bytes ≡ bytes
  pub shown : slot_part journal n ≡ bytes
  pub read : slot_at (replicate (slot_bytes * (n - 1)) 0 ++ bytes) n ≡ slot
  pub move : move_of slot ≡ m

-- mark 4 is pencilled into peers 0, 12 and 19 of (3,7), where 9 and then 4 are placed;
-- 5 is placed at (6,2) and erased; mark 6 is pencilled at (9,2) twice, so written and struck
unfoldable pub calls_slots : List Call
calls_slots =
    pencil 1 7 4 ∷ pencil 3 8 4 ∷ pencil 9 7 4 ∷ place 3 7 9 ∷ place 3 7 4
    ∷ place 6 2 5 ∷ Make (play.Erase 6 2) ∷ pencil 9 2 6 ∷ pencil 9 2 6 ∷ []

pub record SlotRows (journal : List ℕ) : Type 0 where
  pub places :
      SlotRow journal 5 (2 ∷ 3 ∷ 7 ∷ 4 ∷ 9 ∷ 1 ∷ 16 ∷ 8 ∷ [])
      (record { kind = 2; row = 3; column = 7; digit = 4; before = 9; struck = 2 ^ 0 + 2 ^ 12 + 2 ^ 19 }) (Place 3 7 4)
  pub erases :
      SlotRow journal 7 (3 ∷ 6 ∷ 2 ∷ 0 ∷ 5 ∷ 0 ∷ 0 ∷ 0 ∷ [])
      (record { kind = 3; row = 6; column = 2; digit = 0; before = 5; struck = 0 }) (Erase 6 2)
  pub writes :
      SlotRow journal 8 (4 ∷ 9 ∷ 2 ∷ 6 ∷ 0 ∷ 0 ∷ 0 ∷ 0 ∷ [])
      (record { kind = 4; row = 9; column = 2; digit = 6; before = 0; struck = 0 }) (WriteMark 9 2 6)
  pub strikes :
      SlotRow journal 9 (5 ∷ 9 ∷ 2 ∷ 6 ∷ 0 ∷ 0 ∷ 0 ∷ 0 ∷ [])
      (record { kind = 5; row = 9; column = 2; digit = 6; before = 0; struck = 0 }) (StrikeMark 9 2 6)

-- ---- stored checks: standing, two bytes, low first; row, column, digit, verdict

-- check n as check memory holds it, and the same bytes read in a memory of zeros
pub record CheckRow (checks : List ℕ) (n : ℕ) (bytes : List ℕ) (c : Stored) (verdict : ℕ) : Type 0 where
  pub written : part checks (check_bytes * (n - 1)) check_bytes ≡ bytes
  pub read : stored_at (replicate (check_bytes * (n - 1)) 0 ++ bytes) n ≡ c
  pub judged : verdict_byte (replicate (check_bytes * (n - 1)) 0 ++ bytes) n ≡ verdict

-- a board where 772 moves stand, 9 at (6,2) as in the solution and 7 at (8,5) not
unfoldable pub many_moves : Session
many_moves =
    let s = after fresh_e (place 6 2 9 ∷ place 8 5 7 ∷ []) in
    record { board = board_of (state_of s.board) solution_g (counts 772 772) 0; journal = no_moves; checks = no_checks }

pub record CheckRows (checks : List ℕ) : Type 0 where
  pub wrong : CheckRow checks 2 (4 ∷ 3 ∷ 8 ∷ 5 ∷ 7 ∷ 0 ∷ []) (record { standing = 772; row = 8; column = 5; digit = 7; right = false }) 0
  pub right : CheckRow checks 3 (4 ∷ 3 ∷ 6 ∷ 2 ∷ 9 ∷ 1 ∷ []) (record { standing = 772; row = 6; column = 2; digit = 9; right = true }) 1

-- ---- a record with an item of every kind

unfoldable pub item_bytes : List ℕ
item_bytes =
    (1 ∷ 4 ∷ 6 ∷ 7 ∷ [])
    ++ (2 ∷ 3 ∷ 7 ∷ 4 ∷ [])
    ++ (3 ∷ 6 ∷ 2 ∷ [])
    ++ (4 ∷ 9 ∷ 2 ∷ 6 ∷ [])
    ++ (5 ∷ 8 ∷ 1 ∷ 3 ∷ [])
    ++ (6 ∷ 3 ∷ 2 ∷ [])
    ++ (7 ∷ 4 ∷ 3 ∷ 9 ∷ 2 ∷ 8 ∷ [])

unfoldable pub item_parts : Parts
item_parts =
    record {
      givens = record { row = 4; column = 6; digit = 7 } ∷ [];
      moves = Place 3 7 4 ∷ Erase 6 2 ∷ WriteMark 9 2 6 ∷ StrikeMark 8 1 3 ∷ [];
      undone = 515;
      checks = record { standing = 772; row = 9; column = 2; digit = 8 } ∷ [];
    }

pub record ItemRows : Type 0 where
  pub written : record_of item_parts ≡ item_bytes
  pub read : parts_of_bytes item_bytes ≡ item_parts
  pub stands : malformed item_bytes ≡ accepted

-- ---- encoded calls: which call, row, column, digit; and answers: the number, the place, two bytes, low first, the verdict

-- a call's bytes, and the same bytes read behind another call's
pub record CallRow (c : Call) (bytes : List ℕ) : Type 0 where
  pub written : encode c ≡ bytes
  pub read : decode_at (replicate call_bytes 0 ++ bytes) 1 ≡ Some c

pub record CallRows : Type 0 where
  pub places : CallRow (place 3 7 4) (16 ∷ 3 ∷ 7 ∷ 4 ∷ [])
  pub erases : CallRow (Make (play.Erase 6 2)) (17 ∷ 6 ∷ 2 ∷ 0 ∷ [])
  pub pencils : CallRow (pencil 9 2 6) (18 ∷ 9 ∷ 2 ∷ 6 ∷ [])
  pub undoes : CallRow Undo (19 ∷ 0 ∷ 0 ∷ 0 ∷ [])
  pub redoes : CallRow Redo (20 ∷ 0 ∷ 0 ∷ 0 ∷ [])
  pub checks : CallRow (Check 9 2) (21 ∷ 9 ∷ 2 ∷ 0 ∷ [])
  -- no kind of a move, 2 to 5 today and others below 16 to come, encodes a call, nor does a byte above the last one
  pub none_below : (kind row column digit : ℕ) → kind < 16 → decode kind row column digit ≡ None
  pub none_above : (kind row column digit : ℕ) → 21 < kind → decode kind row column digit ≡ None
  pub refused : answer_bytes (said (refusal 14 772 0) false) ≡ 14 ∷ 4 ∷ 3 ∷ 0 ∷ []
  pub right : answer_bytes (said accepted true) ≡ 0 ∷ 0 ∷ 0 ∷ 1 ∷ []

-- ---- 17: the first item that can't stand there or is cut short, or items plus one where the bytes end and kind 6 is missing

pub record MalformedRows : Type 0 where
  pub given_after_a_move : malformed (1 ∷ 4 ∷ 6 ∷ 7 ∷ 2 ∷ 3 ∷ 7 ∷ 4 ∷ 1 ∷ 5 ∷ 6 ∷ 8 ∷ 6 ∷ 0 ∷ 0 ∷ []) ≡ refusal 17 3 0
  pub given_after_6 : malformed (6 ∷ 0 ∷ 0 ∷ 1 ∷ 4 ∷ 6 ∷ 7 ∷ []) ≡ refusal 17 2 0
  pub move_after_6 : malformed (2 ∷ 3 ∷ 7 ∷ 4 ∷ 6 ∷ 0 ∷ 0 ∷ 3 ∷ 3 ∷ 7 ∷ []) ≡ refusal 17 3 0
  pub second_6 : malformed (2 ∷ 3 ∷ 7 ∷ 4 ∷ 6 ∷ 0 ∷ 0 ∷ 6 ∷ 0 ∷ 0 ∷ []) ≡ refusal 17 3 0
  pub check_first : malformed (7 ∷ 4 ∷ 3 ∷ 9 ∷ 2 ∷ 8 ∷ 6 ∷ 0 ∷ 0 ∷ []) ≡ refusal 17 1 0
  pub check_before_6 : malformed (2 ∷ 3 ∷ 7 ∷ 4 ∷ 7 ∷ 1 ∷ 0 ∷ 3 ∷ 7 ∷ 4 ∷ 6 ∷ 0 ∷ 0 ∷ []) ≡ refusal 17 2 0
  -- kind 0, and the first above the kinds that are there
  pub kind_0 : malformed (2 ∷ 3 ∷ 7 ∷ 4 ∷ 0 ∷ 3 ∷ 7 ∷ 4 ∷ 6 ∷ 0 ∷ 0 ∷ []) ≡ refusal 17 2 0
  pub kind_8 : malformed (2 ∷ 3 ∷ 7 ∷ 4 ∷ 8 ∷ 3 ∷ 7 ∷ 4 ∷ 6 ∷ 0 ∷ 0 ∷ []) ≡ refusal 17 2 0
  -- one byte short, and the kind byte alone
  pub cut_place : malformed (3 ∷ 6 ∷ 2 ∷ 2 ∷ 3 ∷ 7 ∷ []) ≡ refusal 17 2 0
  pub cut_erase : malformed (2 ∷ 3 ∷ 7 ∷ 4 ∷ 3 ∷ 3 ∷ []) ≡ refusal 17 2 0
  pub cut_undone : malformed (6 ∷ 0 ∷ []) ≡ refusal 17 1 0
  pub cut_check : malformed (6 ∷ 0 ∷ 0 ∷ 7 ∷ 4 ∷ 3 ∷ 9 ∷ 2 ∷ []) ≡ refusal 17 2 0
  pub kind_alone_2 : malformed (3 ∷ 6 ∷ 2 ∷ 2 ∷ []) ≡ refusal 17 2 0
  pub kind_alone_6 : malformed (6 ∷ []) ≡ refusal 17 1 0
  pub kind_alone_7 : malformed (6 ∷ 0 ∷ 0 ∷ 7 ∷ []) ≡ refusal 17 2 0
  -- items plus one, and behind an item of every kind
  pub without_6 : malformed (1 ∷ 4 ∷ 6 ∷ 7 ∷ 2 ∷ 3 ∷ 7 ∷ 4 ∷ 3 ∷ 3 ∷ 7 ∷ []) ≡ refusal 17 4 0
  pub no_bytes : malformed [] ≡ refusal 17 1 0
  pub behind_all_kinds : malformed (item_bytes ++ 8 ∷ []) ≡ refusal 17 8 0

-- slots are those that the calls leave in the journal, checks those that they leave in the check memory
pub record Layouts : Type 0 where
  pub slots : SlotRows (after fresh_e calls_slots).journal
  pub checks : CheckRows (after many_moves (Check 6 2 ∷ Check 8 5 ∷ Check 6 2 ∷ [])).checks
  pub items : ItemRows
  pub calls : CallRows
  pub malformed : MalformedRows
