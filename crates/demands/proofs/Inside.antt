-- No call answers 10 or 11, and as inner numbers they stand beside 29 alone, or beside 25, where they are cells: by the
-- tests that each call's definition lists, whatever they test.
-- Assumes nothing.
use Prim.Native.Nat.{ℕ, zero, suc, ◌+◌}
use mathlib.Core.Path.{◌≡◌, refl}
use mathlib.Core.Bool.{Bool, true, false, not}
use mathlib.Core.List.{List, [], ◌∷◌}
use lib.Dec.{eqb, leb}
use lib.ListN.{length}
use borrow.Author.Tests.{not-true}
use Rattle.std.specs.Prelude.{Option, Some, None}
use Rattle.sudoku.specs.Tests.{Test, ◌⇒◌, first, pick, both, either}
use Rattle.sudoku.specs.Grid.{in_range, on_grid, cell_of, at, peers_of}
use Rattle.sudoku.proofs.Walks.{not_is_true, both_true, both_left, both_right, either_left, either_right}
use Rattle.puzzle.specs.declared.Refusal.{Refusal}
use Rattle.puzzle.specs.declared.Given.{Given}
use Rattle.puzzle.specs.Refusals.{refusal, accepted, is_accepted, refused_if, or_else, first_refused}
use Rattle.puzzle.specs.Givens.{triples, is_given}
use Rattle.puzzle.specs.Vouch.{nothing_left, solution_digit, first_holding, solution_conflict, given_matches, givens_match, vouch, well_posed}
use Rattle.journal.specs.declared.Move.{Move}
use Rattle.journal.specs.declared.Asked.{Asked}
use Rattle.journal.specs.Limits.{journal_bytes}
use Rattle.journal.proofs.NoteCells.{pick_either}
use Rattle.board.specs.declared.Board.{Board}
use Rattle.board.specs.declared.Answer.{Answer}
use Rattle.board.specs.Board.{state_of, is_board, lent_tests}
use Rattle.board.specs.Open.{Opened, open_of, opened_fresh, turned_away, wrong_length, no_moves}
use Rattle.questions.specs.declared.CellAnswer.{CellAnswer}
use Rattle.questions.specs.Questions.{board_number, cell_number, key_number, cell_answer, no_cell, cell_question, yes_no, conflicts_question, accepts_marks_question, players_digit_question, status_question, full_question, consistent_question, can_undo_question, can_redo_question, left_question, keypad_question}
use Rattle.play.specs.declared.Play.{Play}
use Rattle.play.specs.declared.Play.TheVariants as play
use Rattle.play.specs.Play.{Played, move_tests, play_tests, call_tests, record_move, play_of, slot_refusal, unsound_slot, unsound_check, journal_refusal, undo_before, undo_tests, undo_of, redo_before, redo_tests, redo_of, latest_number, next_number}
use Rattle.play.specs.Check.{CheckPlayed, check_tests, check_of}
use Rattle.record.specs.Scan.{Items, ended, cut, then, reached, scan, malformed}
use Rattle.record.specs.Write.{Wrote, wrote_by, unwritable, write_refusal, write_of}
use Rattle.record.specs.Reopen.{oversized, miscounted, unreadable, replay, check_refusal, checks_refusal, reopened, settled_record, replayed, reopen_of}
use Rattle.lines.specs.Lines.{other_sort, line_refusal, read_refusal, read_line_of, write_line_refusal, write_line_of}
use Rattle.readings.specs.declared.Reading.{Reading}
use Rattle.readings.specs.Reading.{reading_refusal, reading, no_reading, reading_of}
use Rattle.calls.specs.declared.Call.{Call}
use Rattle.calls.specs.declared.Call.TheVariants.{Make, Undo, Redo, Check}
use Rattle.calls.specs.Session.{Session, called, call_of}
use Rattle.calls.specs.Encoded.{run_one}
use Rattle.demands.specs.Pencil.{of_marks, inside_29, Inside29}

-- ---- numbers

-- the words of the statement, opened together
unfoldable worded : ℕ
unfolding inside_29 of_marks both either
worded = 0

-- no test of a list has one of the two numbers
unfoldable spares : List Test → Bool
spares [] = true
spares (t ∷ ts) = both (not (of_marks t.number)) (spares ts)

-- so neither is what the list gives
first_spared : (ts : List Test) → spares ts ≡ true → of_marks (first ts) ≡ false
unfolding first spares of_marks either
first_spared [] p = refl
first_spared (t ∷ ts) p = pick_either (λ (n : ℕ). of_marks n ≡ false) t.holds t.number (first ts) (not-true _ (both_left _ _ p)) (first_spared ts (both_right _ _ p))

-- ---- refusals

abbrev Inside : Refusal → Type 0
Inside r = inside_29 r ≡ true

in_inner : (n place inner : ℕ) → of_marks n ≡ false → of_marks inner ≡ false → Inside (refusal n place inner)
unfolding inside_29
in_inner n place inner p q = both_true _ _ (not_is_true _ p) (either_left _ _ (not_is_true _ q))

-- the refusal that a list of tests gives
in_tests : (ts : List Test) (place : ℕ) → spares ts ≡ true → Inside (refusal (first ts) place 0)
unfolding of_marks either
in_tests ts place p = in_inner (first ts) place 0 (first_spared ts p) refl

in_slot : (ts : List Test) (slot : ℕ) → spares ts ≡ true → Inside (slot_refusal (first ts) slot)
unfolding slot_refusal
in_slot ts slot p = in_tests ts (pick (eqb (first ts) 14) slot 0) p

-- where 10 may be the inner number, any may: beside 29 and beside 25
in_named : (n place inner : ℕ) → Inside (refusal n place 10) → Inside (refusal n place inner)
unfolding inside_29 of_marks either
in_named n place inner h = both_true _ _ (both_left _ _ h) (either_right _ _ (both_right _ _ h))

in_none : Inside accepted
unfolding worded
in_none = refl

in_if : (t : Bool) (r : Refusal) → Inside r → Inside (refused_if t r)
unfolding refused_if
in_if t r p = pick_either Inside t r accepted p in_none

in_or : (a b : Refusal) → Inside a → Inside b → Inside (or_else a b)
unfolding or_else
in_or a b p q = pick_either Inside (is_accepted a) b a q p

in_first : (f : ℕ → Refusal) → ((i : ℕ) → Inside (f i)) → (n i : ℕ) → Inside (first_refused f n i)
unfolding first_refused
in_first f p zero i = in_none
in_first f p (suc n) i = in_or (f i) (first_refused f n (suc i)) (p i) (in_first f p n (suc i))

-- ---- the play calls

play_spares : (b : Board) (journal : List ℕ) (a : Play) → spares (call_tests b journal a) ≡ true
unfolding worded spares call_tests lent_tests play_tests move_tests
play_spares b journal (play.Place row column digit) = refl
play_spares b journal (play.Erase row column) = refl
play_spares b journal (play.Pencil row column digit) = refl

in_play : (b : Board) (journal : List ℕ) (a : Play) → Inside (play_of b journal a).answer.refusal
unfolding play_of record_move
in_play b journal a = pick_either (λ (x : Played). Inside x.answer.refusal) _ _ _ in_none (in_tests (call_tests b journal a) 0 (play_spares b journal a))

in_undo : (b : Board) (journal : List ℕ) → Inside (undo_of b journal).refusal
unfolding undo_of undo_tests undo_before lent_tests worded spares
in_undo b journal = pick_either (λ (x : Answer). Inside x.refusal) _ _ _ in_none (in_slot (undo_tests b journal) b.standing refl)

in_redo : (b : Board) (journal : List ℕ) → Inside (redo_of b journal).refusal
unfolding redo_of redo_tests redo_before lent_tests worded spares
in_redo b journal = pick_either (λ (x : Answer). Inside x.refusal) _ _ _ in_none (in_slot (redo_tests b journal) (b.standing + 1) refl)

in_check : (b : Board) (checks : List ℕ) (row column : ℕ) → Inside (check_of b checks row column).answer.refusal
unfolding check_of check_tests lent_tests worded spares
in_check b checks row column = pick_either (λ (x : CheckPlayed). Inside x.answer.refusal) _ _ _ in_none (in_tests (check_tests b checks row column) 0 refl)

in_call : (s : Session) (c : Call) → Inside (call_of s c).said.refusal
unfolding call_of called
in_call s (Make a) = in_play s.board s.journal a
in_call s Undo = in_undo s.board s.journal
in_call s Redo = in_redo s.board s.journal
in_call s (Check row column) = in_check s.board s.checks row column

in_run : (s : Session) (c : Option Call) → Inside (run_one s c).said.refusal
unfolding run_one called worded
in_run s (Some c) = in_call s c
in_run s None = refl

-- ---- opening

in_givens : (solution : List ℕ) (gs : List Given) (i : ℕ) → Inside (givens_match solution gs i)
unfolding givens_match given_matches worded
in_givens solution [] i = refl
in_givens solution (g ∷ gs) i = in_or _ _ (in_or _ _ (in_if _ _ refl) (in_if _ _ refl)) (in_givens solution gs (suc i))

in_vouch : (gs : List Given) (solution : List ℕ) → Inside (vouch gs solution)
unfolding vouch nothing_left solution_digit solution_conflict worded
in_vouch gs solution =
    in_or _ _ (in_if _ _ refl)
    (in_or _ _ (in_first _ (λ i. in_or _ _ (in_if _ _ refl) (in_if _ _ refl)) 81 1)
    (in_or _ _ (in_first _ (λ i. in_if _ _ (in_named 25 i (first_holding solution (at solution i) (peers_of i)) refl)) 81 1) (in_givens solution gs 1)))

-- what is turned away is refused by what it is turned away for
in_opened : (givens solution journal checks : List ℕ) → Inside (open_of givens solution journal checks).answer.refusal
unfolding open_of opened_fresh turned_away wrong_length well_posed worded
in_opened givens solution journal checks =
    pick_either (λ (x : Opened). Inside x.answer.refusal) _ _ _
    (pick_either (λ (x : Opened). Inside x.answer.refusal) _ _ _ refl (in_or _ _ (in_if _ _ refl) (in_vouch (triples givens) solution)))
    refl

-- ---- reopening

in_scan : (phase n : ℕ) (is : Items) → Inside (scan phase n is)
unfolding scan worded
in_scan phase n ended = pick_either Inside _ _ _ refl refl
in_scan phase n cut = refl
in_scan phase n (then i is) = pick_either Inside _ _ _ (in_scan (reached i) (suc n) is) refl

in_unreadable : (bytes solution : List ℕ) → Inside (unreadable bytes solution)
unfolding unreadable malformed oversized miscounted worded
in_unreadable bytes solution =
    in_or _ _ (in_scan 0 1 _)
    (in_or _ _ (in_if _ _ refl) (in_or _ _ (in_if _ _ refl) (in_or _ _ (in_or _ _ (in_if _ _ refl) (in_if _ _ refl)) (in_vouch _ solution))))

in_replay : (ms : List Move) (b : Board) (journal : List ℕ) (k : ℕ) → Inside (replay b journal k ms).answer.refusal
unfolding replay worded
in_replay [] b journal k = refl
in_replay (m ∷ ms) b journal k =
    pick_either (λ (x : Played). Inside x.answer.refusal) _ _ _ refl
    (pick_either (λ (x : Played). Inside x.answer.refusal) _ _ _ (in_replay ms _ _ (suc k)) (in_named 29 k (first (move_tests (state_of b) m)) refl))

in_checks : (b : Board) (cells k : ℕ) (cs : List Asked) → Inside (checks_refusal b cells k cs)
unfolding checks_refusal check_refusal spares worded
in_checks b cells k [] = refl
in_checks b cells k (c ∷ cs) =
    in_or _ _ (in_or _ _ (in_if _ _ (in_inner 31 k (first asked) refl (first_spared asked refl))) (in_or _ _ (in_if _ _ refl) (in_if _ _ refl)))
    (in_checks b cells (suc k) cs)
  where
    asked : List Test
    asked = (not (on_grid c.row c.column) ⇒ 3) ∷ (is_given b.given (cell_of c.row c.column) ⇒ 5) ∷ (not (in_range c.digit) ⇒ 8) ∷ []

in_reopened : (bytes solution journal checks : List ℕ) → Inside (reopen_of bytes solution journal checks).answer.refusal
unfolding reopen_of replayed settled_record reopened turned_away wrong_length worded
in_reopened bytes solution journal checks =
    pick_either Refuses _ _ _
    (pick_either Refuses _ _ _
    (pick_either Refuses _ _ _ (pick_either Refuses _ _ _ refl (in_or _ _ (in_if _ _ refl) (in_checks _ _ 1 _))) (in_replay _ _ no_moves 1))
    (in_unreadable bytes solution))
    refl
  where
    Refuses : Opened → Type 0
    Refuses x = Inside x.answer.refusal

-- ---- writing, readings and lines

in_wrote : (r : Refusal) (bytes output : List ℕ) → Inside r → Inside (wrote_by r bytes output).answer.refusal
unfolding wrote_by
in_wrote r bytes output p = pick_either (λ (x : Wrote). Inside x.answer.refusal) _ _ _ in_none p

in_journal : (fits : Bool) (b : Board) (journal : List ℕ) → Inside (journal_refusal fits b journal)
unfolding journal_refusal unsound_slot lent_tests spares worded
in_journal fits b journal = in_or _ _ (in_tests (lent_tests fits b []) 0 refl) (in_first _ (λ n. in_if _ _ refl) b.made 1)

in_written : (b : Board) (journal checks output : List ℕ) → Inside (write_of b journal checks output).answer.refusal
unfolding write_of write_refusal unwritable unsound_check worded
in_written b journal checks output =
    in_wrote _ _ output (in_or _ _ (in_or _ _ (in_journal _ b journal) (in_first _ (λ n. in_if _ _ refl) b.checks 1)) (in_if _ _ refl))

in_reading : (b : Board) (journal : List ℕ) (k : ℕ) → Inside (reading_of b journal k).refusal
unfolding reading_of reading no_reading reading_refusal worded
in_reading b journal k = pick_either (λ (x : Reading). Inside x.refusal) _ _ _ refl (in_or _ _ (in_journal _ b journal) (in_if _ _ refl))

in_line_read : (line output : List ℕ) → Inside (read_line_of line output).answer.refusal
unfolding read_line_of read_refusal line_refusal other_sort worded
in_line_read line output = in_wrote _ _ output (in_or _ _ (in_if _ _ refl) (in_or _ _ (in_if _ _ refl) (in_first _ (λ n. in_if _ _ refl) 81 1)))

in_line_written : (b : Board) (output : List ℕ) → Inside (write_line_of b output).answer.refusal
unfolding write_line_of write_line_refusal worded
in_line_written b output = in_wrote _ _ output (in_or _ _ (in_if _ _ refl) (in_if _ _ refl))

-- ---- questions

about_board : (b : Board) → Inside (refusal (board_number b) 0 0)
unfolding board_number spares worded
about_board b = in_tests ((not (is_board b) ⇒ 2) ∷ []) 0 refl

about_cell : (b : Board) (row column : ℕ) → Inside (refusal (cell_number b row column) 0 0)
unfolding cell_number spares worded
about_cell b row column = in_tests ((not (is_board b) ⇒ 2) ∷ (not (on_grid row column) ⇒ 3) ∷ []) 0 refl

about_key : (b : Board) (digit : ℕ) → Inside (refusal (key_number b digit) 0 0)
unfolding key_number spares worded
about_key b digit = in_tests ((not (is_board b) ⇒ 2) ∷ (not (in_range digit) ⇒ 8) ∷ []) 0 refl

pub inside : Inside29
unfolding yes_no conflicts_question accepts_marks_question players_digit_question status_question full_question consistent_question can_undo_question can_redo_question left_question keypad_question cell_question cell_answer no_cell latest_number next_number lent_tests spares worded
inside =
    record {
      played = in_call;
      ran = in_run;
      opened = in_opened;
      reopened = in_reopened;
      written = in_written;
      read = in_reading;
      line_read = in_line_read;
      line_written = in_line_written;
      latest = λ b journal. first_spared (lent_tests (eqb (length journal) journal_bytes) b ((eqb b.standing 0 ⇒ 12) ∷ [])) refl;
      next = λ b journal. first_spared (lent_tests (eqb (length journal) journal_bytes) b ((leb b.made b.standing ⇒ 13) ∷ [])) refl;
      cell = λ b row column. pick_either (λ (x : CellAnswer). Inside x.refusal) _ _ _ refl (about_cell b row column);
      conflicts = λ b row column. about_cell b row column;
      accepts_marks = λ b row column. about_cell b row column;
      holds_players_digit = λ b row column. about_cell b row column;
      is_solved = λ b. about_board b;
      is_full = λ b. about_board b;
      is_consistent = λ b. about_board b;
      can_undo = λ b. about_board b;
      can_redo = λ b. about_board b;
      digits_left = λ b digit. about_key b digit;
      keypad = λ b. about_board b;
    }
