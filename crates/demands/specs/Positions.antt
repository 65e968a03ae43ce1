-- The twelve positions of document 01, as rows of one statement; the pencil call stands for its two mark calls, by
-- document 02, point 3. The proof stands elsewhere.
-- Assumes nothing.
use Rattle.std.specs.Prelude.{ℕ, zero, suc, ◌+◌, ◌-◌, ◌*◌, ◌/◌, ◌%◌, ◌≡◌, Bool, true, false, List, [], ◌∷◌, ◌++◌, map, replicate}
use Rattle.sudoku.specs.Tests.{listed}
use Rattle.sudoku.specs.Grid.{row_of, column_of, cell_of, peers_of, at}
use Rattle.puzzle.specs.declared.Refusal.{Refusal}
use Rattle.puzzle.specs.Refusals.{refusal, accepted}
use Rattle.puzzle.specs.Puzzle.{conflicts}
use Rattle.puzzle.specs.Givens.{triples}
use Rattle.journal.specs.Limits.{record_bytes}
use Rattle.journal.specs.Bytes.{over}
use Rattle.journal.specs.Slots.{slot_at, slot_part}
use Rattle.journal.specs.StoredChecks.{verdict_byte}
use Rattle.board.specs.Open.{Opened, open_of, opened_fresh, no_moves, no_checks}
use Rattle.record.specs.Write.{Wrote, wrote, write_of}
use Rattle.record.specs.Reopen.{reopen_of}
use Rattle.play.specs.declared.Play.TheVariants.{Place, Pencil}
use Rattle.calls.specs.declared.Call.{Call}
use Rattle.calls.specs.declared.Call.TheVariants.{Make, Undo, Check}
use Rattle.calls.specs.Session.{Session, Said, after, answers, started}

-- solution G: cell (r, c) is (3(r−1) + (r−1)/3 rounded down + c−1) mod 9, plus 1
unfoldable pub digit_g : ℕ → ℕ → ℕ
digit_g r c = (3 * (r - 1) + (r - 1) / 3 + (c - 1)) % 9 + 1

unfoldable pub solution_g : List ℕ
solution_g = listed (λ cell. digit_g (row_of cell) (column_of cell)) 81 1

-- the givens of the first n cells of G, as bytes
unfoldable pub givens_from : ℕ → ℕ → List ℕ
givens_from zero cell = []
givens_from (suc n) cell = row_of cell ∷ column_of cell ∷ digit_g (row_of cell) (column_of cell) ∷ givens_from n (suc cell)

-- E has no givens, L all of G but (9,9); both open with solution G
unfoldable pub givens_e : List ℕ
givens_e = []

unfoldable pub givens_l : List ℕ
givens_l = givens_from 80 1

unfoldable pub open_g : List ℕ → Opened
open_g givens = open_of givens solution_g no_moves no_checks

unfoldable pub E : Session
E = started (open_g givens_e)

unfoldable pub L : Session
L = started (open_g givens_l)

-- the calls
abbrev pub place : ℕ → ℕ → ℕ → Call
place row column digit = Make (Place row column digit)

abbrev pub pencil : ℕ → ℕ → ℕ → Call
pencil row column digit = Make (Pencil row column digit)

-- the numbers that calls answer from a session on, and their verdicts
unfoldable pub numbers : Session → List Call → List ℕ
numbers s calls = map (λ (a : Said). a.refusal.number) (answers s calls)

unfoldable pub verdicts : Session → List Call → List Bool
verdicts s calls = map (λ (a : Said). a.right) (answers s calls)

-- e: mark 5 in all peers of (5,5)
unfoldable pub marks_around : List ℕ → List Call
marks_around cells = map (λ cell. pencil (row_of cell) (column_of cell) 5) cells

unfoldable pub calls_e : List Call
calls_e = marks_around (peers_of (cell_of 5 5))

-- the notes of the twenty peers of (5,5)
unfoldable pub notes_around : Session → List ℕ
notes_around s = map (λ cell. at s.board.notes cell) (peers_of (cell_of 5 5))

-- k: mark 1 at (1,1) written and struck in turn, n times each
unfoldable pub in_turn : ℕ → List Call
in_turn zero = []
in_turn (suc n) = pencil 1 1 1 ∷ pencil 1 1 1 ∷ in_turn n

-- what writing a session's record into an output of zeros finds: the record and zeros beyond it
unfoldable pub write : Session → Wrote
write s = write_of s.board s.journal s.checks (replicate record_bytes 0)

-- the refusal of reopening bytes with solution G
unfoldable pub reopening : List ℕ → Refusal
reopening bytes = (reopen_of bytes solution_g no_moves no_checks).answer.refusal

-- h: a place of 5 at (1,1), and its check with a standing count of two bytes
unfoldable pub record_h : ℕ → ℕ → List ℕ
record_h a b = 2 ∷ 1 ∷ 1 ∷ 5 ∷ 6 ∷ 0 ∷ 0 ∷ 7 ∷ a ∷ b ∷ 1 ∷ 1 ∷ 5 ∷ []

-- the givens of the first n cells of G as items of a record, and a record of L
unfoldable pub items_from : ℕ → ℕ → List ℕ
items_from zero cell = []
items_from (suc n) cell = 1 ∷ row_of cell ∷ column_of cell ∷ digit_g (row_of cell) (column_of cell) ∷ items_from n (suc cell)

unfoldable pub record_l : List ℕ → List ℕ
record_l rest = items_from 80 1 ++ rest

-- i: a place of 7 at (9,9), and a check there of a digit with a standing count below 256
unfoldable pub record_i : ℕ → ℕ → List ℕ
record_i standing digit = record_l (2 ∷ 9 ∷ 9 ∷ 7 ∷ 6 ∷ 0 ∷ 0 ∷ 7 ∷ standing ∷ 0 ∷ 9 ∷ 9 ∷ digit ∷ [])

-- f: the record that document 01 gives
abbrev pub record_f : List ℕ
record_f = 2 ∷ 1 ∷ 1 ∷ 5 ∷ 4 ∷ 1 ∷ 2 ∷ 3 ∷ 6 ∷ 1 ∷ 0 ∷ 7 ∷ 1 ∷ 0 ∷ 1 ∷ 1 ∷ 5 ∷ []

unfoldable pub calls_f : List Call
calls_f = place 1 1 5 ∷ pencil 1 2 3 ∷ Undo ∷ Check 1 1 ∷ []

-- E and L open with solution G
pub record Openings : Type 0 where
  pub E_opens : open_g givens_e ≡ opened_fresh (triples givens_e) solution_g
  pub L_opens : open_g givens_l ≡ opened_fresh (triples givens_l) solution_g

-- a | L: place (9,9) 8; undo; place (0,1) 5 | solved; 4; 3
pub record RowA (s : Session) : Type 0 where
  pub answered : numbers s (place 9 9 8 ∷ Undo ∷ place 0 1 5 ∷ []) ≡ 0 ∷ 4 ∷ 3 ∷ []
  pub solved : (after s (place 9 9 8 ∷ [])).board.solved ≡ 1

-- b | L: place (9,9) 7; check | unsolved, conflicting; verdict 0
pub record RowB (s : Session) : Type 0 where
  pub answered : numbers s (place 9 9 7 ∷ Check 9 9 ∷ []) ≡ 0 ∷ 0 ∷ []
  pub unsolved : (after s (place 9 9 7 ∷ [])).board.solved ≡ 0
  pub conflicting : conflicts (after s (place 9 9 7 ∷ [])).board.digits (cell_of 9 9) ≡ true
  pub verdict : verdicts s (place 9 9 7 ∷ Check 9 9 ∷ []) ≡ false ∷ false ∷ []
  pub stored : verdict_byte (after s (place 9 9 7 ∷ Check 9 9 ∷ [])).checks 1 ≡ 0

-- c | E: place (1,1) 5 twice, then 6 | accepted; 9; accepted with before 5
pub record RowC (s : Session) : Type 0 where
  pub answered : numbers s (place 1 1 5 ∷ place 1 1 5 ∷ place 1 1 6 ∷ []) ≡ 0 ∷ 9 ∷ 0 ∷ []
  pub before : (slot_at (after s (place 1 1 5 ∷ place 1 1 5 ∷ place 1 1 6 ∷ [])).journal 2).before ≡ 5

-- d | E: place (5,5) 10; pencil mark 10 there | 8; 8
pub record RowD (s : Session) : Type 0 where
  pub answered : numbers s (place 5 5 10 ∷ pencil 5 5 10 ∷ []) ≡ 8 ∷ 8 ∷ []

-- e | E: pencil mark 5 in all peers of (5,5), place 5 there, undo | mask bytes 255, 255, 15; twenty marks back
pub record RowE (s : Session) : Type 0 where
  pub answered : numbers s (calls_e ++ place 5 5 5 ∷ Undo ∷ []) ≡ replicate 22 0
  pub mask : slot_part (after s (calls_e ++ place 5 5 5 ∷ [])).journal 21 ≡ 2 ∷ 5 ∷ 5 ∷ 5 ∷ 0 ∷ 255 ∷ 255 ∷ 15 ∷ []
  pub struck : notes_around (after s (calls_e ++ place 5 5 5 ∷ [])) ≡ replicate 20 0
  pub back : notes_around (after s (calls_e ++ place 5 5 5 ∷ Undo ∷ [])) ≡ replicate 20 32

-- f | E: place (1,1) 5, pencil (1,2) 3, undo, check (1,1), write | 2 1 1 5 4 1 2 3 6 1 0 7 1 0 1 1 5
pub record RowF (s : Session) : Type 0 where
  pub answered : numbers s calls_f ≡ 0 ∷ 0 ∷ 0 ∷ 0 ∷ []
  pub written : write (after s calls_f) ≡ wrote accepted 17 (over (replicate record_bytes 0) 0 record_f)

-- g | E: reopen 6 0 0; reopen no bytes | fresh board; 17 at 1
pub record RowG : Type 0 where
  pub fresh : reopen_of (6 ∷ 0 ∷ 0 ∷ []) solution_g no_moves no_checks ≡ opened_fresh (triples givens_e) solution_g
  pub nothing : reopening [] ≡ refusal 17 1 0

-- h | E: reopen 2 1 1 5 6 0 0 and check (1,1) 5 with standing 0; 1,024; 1,025 | 32; accepted; 18
pub record RowH : Type 0 where
  pub standing_0 : reopening (record_h 0 0) ≡ refusal 32 1 0
  pub standing_1024 : reopening (record_h 0 4) ≡ accepted
  pub standing_1025 : reopening (record_h 1 4) ≡ refusal 18 0 0

-- i | L: place 7 recorded, check (9,9) 8 with standing 1; with 0; digit 7 with 1 | 33; 32; accepted, verdict 0
pub record RowI : Type 0 where
  pub right_1 : reopening (record_i 1 8) ≡ refusal 33 1 0
  pub right_0 : reopening (record_i 0 8) ≡ refusal 32 1 0
  pub wrong_1 : reopening (record_i 1 7) ≡ accepted
  pub stored : verdict_byte (reopen_of (record_i 1 7) solution_g no_moves no_checks).checks 1 ≡ 0

-- j | L: recorded place 8, undone 1; recorded place 8, then 7 | 30; 28 at 2
pub record RowJ : Type 0 where
  pub undone_1 : reopening (record_l (2 ∷ 9 ∷ 9 ∷ 8 ∷ 6 ∷ 1 ∷ 0 ∷ [])) ≡ refusal 30 0 0
  pub then_7 : reopening (record_l (2 ∷ 9 ∷ 9 ∷ 8 ∷ 2 ∷ 9 ∷ 9 ∷ 7 ∷ 6 ∷ 0 ∷ 0 ∷ [])) ≡ refusal 28 2 0

-- k | E: pencil mark 1 at (1,1) 1,024 times, so write and strike it in turn, then once more; undo, pencil | 15; accepted
pub record RowK (s : Session) : Type 0 where
  pub answered : numbers s (in_turn 512 ++ pencil 1 1 1 ∷ Undo ∷ pencil 1 1 1 ∷ []) ≡ replicate 1024 0 ++ 15 ∷ 0 ∷ 0 ∷ []

-- l | 80 givens of G; all 81 with a zero solution | opens; 22
pub record RowL : Type 0 where
  pub eighty : open_g (givens_from 80 1) ≡ opened_fresh (triples (givens_from 80 1)) solution_g
  pub all : (open_of (givens_from 81 1) (replicate 81 0) no_moves no_checks).answer.refusal ≡ refusal 22 0 0

-- rows a to f and k are played from the opening of E or L
pub record Positions : Type 0 where
  pub openings : Openings
  pub a : RowA L
  pub b : RowB L
  pub c : RowC E
  pub d : RowD E
  pub e : RowE E
  pub f : RowF E
  pub g : RowG
  pub h : RowH
  pub i : RowI
  pub j : RowJ
  pub k : RowK E
  pub l : RowL
