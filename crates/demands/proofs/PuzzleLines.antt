-- Puzzle lines, proved: the round trips of crate lines, carried to boards that calls reach.
-- Assumes nothing.
use Prim.Native.Nat.{ℕ, ◌≤◌}
use mathlib.Core.Path.{◌≡◌, refl, sym, ap, subst, ◌∙◌}
use mathlib.Core.Bool.{true}
use mathlib.Core.List.{List, []}
use native.Mathlib.Omega.{arith}
use borrow.Author.Tests.{eqb-true, ltb-false}
use lib.Dec.{ltb}
use lib.ListN.{length, take}
use Rattle.sudoku.specs.Grid.{in_range}
use Rattle.sudoku.proofs.Walks.{by_test, not_both_ways, pick_true, pick_false}
use Rattle.sudoku.proofs.Listed.{length_listed}
use Rattle.puzzle.specs.declared.Given.{Given}
use Rattle.puzzle.specs.declared.Refusal.{Refusal}
use Rattle.puzzle.specs.Refusals.{refusal, accepted, is_accepted, refused_if}
use Rattle.puzzle.specs.Givens.{triples, triple_bytes}
use Rattle.puzzle.proofs.Accepted.{accepts, if_passed, or_else_left, or_else_right}
use Rattle.puzzle.proofs.GivensBy.{by_room, triples_back, bytes_back}
use Rattle.journal.specs.Bytes.{over}
use Rattle.board.specs.declared.Board.{Board}
use Rattle.board.specs.Board.{is_board}
use Rattle.board.specs.Open.{Opened, open_of, opened_fresh, no_moves, no_checks}
use Rattle.record.specs.Write.{Wrote, wrote, wrote_by, givens_of}
use Rattle.lines.specs.Lines.{line_bytes, givens_room, value_at, line_refusal, line_givens, read_refusal, read_line_of, character_at, line_of, write_line_refusal, write_line_of, dotted_line}
use Rattle.lines.proofs.Reading.{is_read}
use Rattle.lines.proofs.Writing.{is_written}
use Rattle.lines.proofs.RoundTrip.{line_ascends, line_read, same_givens as read_givens, line_again}
use Rattle.calls.specs.declared.Call.{Call}
use Rattle.calls.specs.Session.{Session, after, started}
use Rattle.demands.specs.Book.{Book, new_book, keep}
use Rattle.demands.specs.Opens.{Opens}
use Rattle.demands.specs.Demand3.{board_in, Openable, Reached, book_of}
use Rattle.demands.specs.PuzzleLines.{bytes_in, Untouched, Yields, LineTheorem}
use Rattle.demands.proofs.Opening.{opens_exactly, opened}
use Rattle.demands.proofs.Good.{Good, good_new, good_keep}
use Rattle.demands.proofs.Held.{good_board, starts_with}
use Rattle.demands.proofs.Lists.{agrees_all, keep_givens, fresh_session, fresh_held, of_book}
use Rattle.demands.proofs.Writing.{same_givens}
use Rattle.demands.proofs.LineRows.{line_rows}

-- ---- what a call has written

bytes_of : (w : Wrote) (output bytes : List ℕ) → length bytes ≤ length output → w ≡ wrote accepted (length bytes) (over output 0 bytes) → bytes_in w ≡ bytes
unfolding bytes_in
bytes_of w output bytes h e = ap (λ (x : Wrote). take x.answer.length x.output) e ∙ starts_with output bytes h

-- an accepted answer is to a call that was not refused, and a refused one leaves all as it was
module _ (r : Refusal) (bytes output : List ℕ) where
  was_accepted : (wrote_by r bytes output).answer.refusal ≡ accepted → is_accepted r ≡ true
  unfolding wrote_by
  was_accepted h =
      by_test (is_accepted r) (λ t. t)
      (λ t.
      absurd
      (not_both_ways (is_accepted r)
      (accepts r (sym (ap (λ (w : Wrote). w.answer.refusal) (pick_false (is_accepted r) _ (wrote r 0 output) t)) ∙ h)) t))

  untouched : ((wrote_by r bytes output).answer.refusal.number ≡ 0 → ⊥) → Untouched (wrote_by r bytes output) output
  unfolding wrote_by
  untouched n =
      by_test (is_accepted r)
      (λ t. absurd (n (ap (λ (w : Wrote). w.answer.refusal.number) (pick_true _ _ _ t))))
      (λ t. record { nothing = ap (λ (w : Wrote). w.answer.length) (pick_false _ _ _ t); same = ap (λ (w : Wrote). w.output) (pick_false _ _ _ t) })

-- ---- reading

module _ (line : List ℕ) (t : is_accepted (line_refusal line) ≡ true) where
  short : length (triple_bytes (line_givens line)) ≤ givens_room
  unfolding line_givens
  short = by_room (λ cell. in_range (value_at line cell)) (value_at line)

  reads : (output : List ℕ) → givens_room ≤ length output
      → read_line_of line output ≡ wrote accepted (length (triple_bytes (line_givens line))) (over output 0 (triple_bytes (line_givens line)))
  unfolding is_accepted
  reads output room = sym (is_read line output room (line_refusal line) refl (eqb-true (line_refusal line).number 0 t))

  yields : Yields line (line_givens line)
  yields =
      record {
        read = reads;
        handed_on =
            λ output room.
            ap triples (bytes_of (read_line_of line output) output (triple_bytes (line_givens line)) (omega (arith, short, room)) (reads output room))
            ∙ triples_back (line_givens line);
      }

-- a line that is read is one, into a long enough output
module _ (line output : List ℕ) (h : (read_line_of line output).answer.refusal ≡ accepted) where
  read_accepted : is_accepted (read_refusal line output) ≡ true
  unfolding read_line_of
  read_accepted = was_accepted (read_refusal line output) (triple_bytes (line_givens line)) output h

  was_line : is_accepted (line_refusal line) ≡ true
  unfolding read_refusal
  was_line = or_else_right (refused_if (ltb (length output) givens_room) (refusal 34 0 0)) _ read_accepted

  had_room : givens_room ≤ length output
  unfolding read_refusal is_accepted
  had_room = ltb-false (length output) givens_room (if_passed _ (refusal 34 0 0) refl (or_else_left _ _ read_accepted))

  given_back : triples (bytes_in (read_line_of line output)) ≡ line_givens line
  given_back = (yields line was_line).handed_on output had_room

-- ---- writing

module _ (b : Board) (t : is_board b ≡ true) (output : List ℕ) (room : line_bytes ≤ length output) where
  writes : write_line_of b output ≡ wrote accepted line_bytes (over output 0 (line_of b))
  writes = sym (is_written b output t room)

  line_written : bytes_in (write_line_of b output) ≡ line_of b
  unfolding line_of
  line_written =
      let n = length_listed (character_at b.given b.digits) 81 1 in
      bytes_of (write_line_of b output) output (line_of b) (omega (arith, n, room)) (writes ∙ ap (λ (k : ℕ). wrote accepted k (over output 0 (line_of b))) (sym n))

  written_read : Yields (bytes_in (write_line_of b output)) (givens_of b)
  written_read =
      subst (λ (line : List ℕ). Yields line (givens_of b)) (sym line_written)
      (subst (λ (gs : List Given). Yields (line_of b) gs) (read_givens b t) (yields (line_of b) (accepts _ (line_read b t))))

-- ---- boards that calls reach

of_reached : (s : Session) (r : Reached s) (output : List ℕ) → line_bytes ≤ length output → Yields (bytes_in (write_line_of s.board output)) r.givens
unfolding book_of new_book
of_reached s r output room =
    subst (λ (gs : List Given). Yields (bytes_in (write_line_of s.board output)) gs) (keep_givens (new_book r.givens r.solution) r.calls)
    (of_book s r (λ (x : Session) (k : Book). Yields (bytes_in (write_line_of x.board output)) k.givens)
    (λ k journal checks g h.
    subst (λ (gs : List Given). Yields (bytes_in (write_line_of (board_in k) output)) gs) (same_givens k g)
    (written_read (board_in k) (good_board k g) output room)))

-- the board after calls from the fresh one of some givens holds them, and passes number 2
module _ (givens : List Given) (solution : List ℕ) (o : Opens givens solution) (calls : List Call) where
  abbrev book : Book
  book = keep (new_book givens solution) calls

  good : Good book
  good = good_keep (new_book givens solution) calls (good_new givens solution o)

  board_then : (after (started (opened_fresh givens solution)) calls).board ≡ board_in book
  board_then =
      ap (λ (s : Session). (after s calls).board) (fresh_session givens solution)
      ∙ ap (λ (s : Session). s.board) (agrees_all (new_book givens solution) no_moves no_checks calls (good_new givens solution o) (fresh_held givens solution)).left

  givens_then : givens_of (after (started (opened_fresh givens solution)) calls).board ≡ givens
  unfolding new_book
  givens_then = ap givens_of board_then ∙ same_givens book good ∙ keep_givens (new_book givens solution) calls

  is_then : is_board (after (started (opened_fresh givens solution)) calls).board ≡ true
  is_then = ap is_board board_then ∙ good_board book good

read_written :
    (line room solution journal checks : List ℕ) (calls : List Call) (output : List ℕ)
    → (read_line_of line room).answer.refusal ≡ accepted
    → (open_of (bytes_in (read_line_of line room)) solution journal checks).answer.refusal ≡ accepted
    → line_bytes ≤ length output
    → write_line_of (after (started (open_of (bytes_in (read_line_of line room)) solution journal checks)) calls).board output
    ≡ wrote accepted line_bytes (over output 0 (dotted_line line))
read_written line room solution journal checks calls output h q fits =
    ap (λ (o : Opened). write_line_of (after (started o) calls).board output) fresh
    ∙ writes board (is_then givens solution opens calls) output fits
    ∙ ap (λ (l : List ℕ). wrote accepted line_bytes (over output 0 l)) (line_again line (was_line line room h) board (givens_then givens solution opens calls))
  where
    givens : List Given
    givens = line_givens line

    openable : Openable (bytes_in (read_line_of line room)) solution journal checks
    openable = (opens_exactly (bytes_in (read_line_of line room)) solution journal checks).0 q

    fresh : open_of (bytes_in (read_line_of line room)) solution journal checks ≡ opened_fresh (line_givens line) solution
    fresh = opened (bytes_in (read_line_of line room)) solution journal checks openable ∙ ap (λ (gs : List Given). opened_fresh gs solution) (given_back line room h)

    opens : Opens (line_givens line) solution
    opens = subst (λ (gs : List Given). Opens gs solution) (given_back line room h) openable.opens

    board : Board
    board = (after (started (opened_fresh (line_givens line) solution)) calls).board

opened_read :
    (givens solution journal checks output room : List ℕ)
    → (open_of givens solution journal checks).answer.refusal ≡ accepted
    → line_bytes ≤ length output
    → givens_room ≤ length room
    → read_line_of (bytes_in (write_line_of (open_of givens solution journal checks).answer.board output)) room
    ≡ wrote accepted (length givens) (over room 0 givens)
unfolding after started
opened_read givens solution journal checks output room q fits enough =
    ap (λ (o : Opened). read_line_of (bytes_in (write_line_of o.answer.board output)) room) (opened givens solution journal checks openable)
    ∙ (subst (λ (gs : List Given). Yields (bytes_in (write_line_of board output)) gs) (givens_then (triples givens) solution openable.opens [])
    (written_read board (is_then (triples givens) solution openable.opens []) output fits)).read room enough
    ∙ ap (λ (l : List ℕ). wrote accepted (length l) (over room 0 l)) (bytes_back givens openable.threes)
  where
    openable : Openable givens solution journal checks
    openable = (opens_exactly givens solution journal checks).0 q

    board : Board
    board = (opened_fresh (triples givens) solution).answer.board

-- ---- refused

read_refused : (line output : List ℕ) → ((read_line_of line output).answer.refusal.number ≡ 0 → ⊥) → Untouched (read_line_of line output) output
unfolding read_line_of
read_refused line output n = untouched (read_refusal line output) (triple_bytes (line_givens line)) output n

write_refused : (b : Board) (output : List ℕ) → ((write_line_of b output).answer.refusal.number ≡ 0 → ⊥) → Untouched (write_line_of b output) output
unfolding write_line_of
write_refused b output n = untouched (write_line_refusal b output) (line_of b) output n

pub line_theorem : LineTheorem
line_theorem =
    record {
      written_read = λ b output t room. written_read b t output room;
      read_written = read_written;
      ascends = line_ascends;
      read_refused = read_refused;
      write_refused = write_refused;
      reached = of_reached;
      opened = opened_read;
      rows = line_rows;
    }
