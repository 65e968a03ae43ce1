-- Demand 3, the statement. Givens open exactly when none of 1, 19 and 22 to 27 applies, and opening returns the
-- fresh board. For every solution, givens that open with it, and list of play calls from the fresh board: every
-- answer is the book's; the board, slots 1 to made and the stored checks hold the book's givens, digits, notes,
-- status, moves with what each displaced, standing count and checks; never more than 1,024 moves and 256 checks
-- are held; the bytes written are the book's record, into every output that is long enough, whatever it held; with
-- the same solution, into any memory of the lengths, they reopen to all of these, and play goes on as in the book.
-- And bytes reopen with a solution exactly when some givens open with it
-- and some list of calls from their fresh board, within the limits at all times, writes them.
-- The proof stands elsewhere. Assumes nothing.
use Rattle.std.specs.Prelude.{ℕ, ◌*◌, ◌%◌, ◌<◌, ◌≤◌, ◌≡◌, ◌↔◌, List, length, get_or, take}
use Rattle.puzzle.specs.declared.Given.{Given}
use Rattle.puzzle.specs.Refusals.{refusal, accepted}
use Rattle.puzzle.specs.Givens.{triples}
use Rattle.journal.specs.Limits.{max_moves, max_checks, slot_bytes, check_bytes, journal_bytes, check_memory, record_bytes}
use Rattle.journal.specs.Bytes.{over}
use Rattle.journal.specs.Counts.{counts}
use Rattle.journal.specs.StoredChecks.{stored_all}
use Rattle.board.specs.declared.Board.{Board}
use Rattle.board.specs.Board.{board_of}
use Rattle.board.specs.Open.{Opened, answer, open_of, opened_fresh, no_moves, no_checks}
use Rattle.record.specs.Write.{Wrote, write_of, wrote}
use Rattle.record.specs.Reopen.{reopen_of}
use Rattle.calls.specs.declared.Call.{Call}
use Rattle.calls.specs.Session.{Session, after, answers, started}
use Rattle.demands.specs.Book.{Book, new_book, made, state_in, keep, says_all, slots_in, record_in}
use Rattle.demands.specs.Opens.{Opens}

-- the board that holds what the book holds
unfoldable pub board_in : Book → Board
board_in k = board_of (state_in k) k.solution (counts (made k) k.standing) (length k.checks)

-- what reopening the book's record returns: its board, its slots and its checks, zero beyond
unfoldable pub reopened_book : Book → Opened
reopened_book k =
    record {
      answer = answer accepted (board_in k);
      journal = over no_moves 0 (slots_in k);
      checks = over no_checks 0 (stored_all k.checks);
    }

-- a session's record written into an output
unfoldable pub write_session : Session → List ℕ → Wrote
write_session s output = write_of s.board s.journal s.checks output

-- a session writes these bytes: into every output that is long enough,
-- whatever it held; a shorter one is refused by 34, and every byte of it stays
pub record Writes (s : Session) (bytes : List ℕ) : Type 0 where
  pub written :
      (output : List ℕ)
      → length bytes ≤ length output
      → write_session s output ≡ wrote accepted (length bytes) (over output 0 bytes)
  pub too_short :
      (output : List ℕ)
      → length output < length bytes
      → write_session s output ≡ wrote (refusal 34 0 0) 0 output

-- no more moves and checks are held than 1,024 and 256
pub record WithinLimits (k : Book) : Type 0 where
  pub moves : made k ≤ max_moves
  pub checks : length k.checks ≤ max_checks

-- a session s, a board with its lent memory, holds what the book k holds, writes its record and reopens to it
pub record Kept (s : Session) (k : Book) : Type 0 where
  pub board : s.board ≡ board_in k
  pub slots : take (slot_bytes * made k) s.journal ≡ slots_in k
  pub checks : take (check_bytes * length k.checks) s.checks ≡ stored_all k.checks
  pub journal_length : length s.journal ≡ journal_bytes
  pub checks_length : length s.checks ≡ check_memory
  pub limits : WithinLimits k
  -- so every output of at least 5,955 bytes is long enough
  pub short : length (record_in k) ≤ record_bytes
  pub writes : Writes s (record_in k)
  pub reopens :
      (journal checks : List ℕ)
      → length journal ≡ journal_bytes
      → length checks ≡ check_memory
      → reopen_of (record_in k) k.solution journal checks ≡ reopened_book k

-- a session that holds the book of some calls, from givens that open: what calls reach from the fresh board or
-- from a reopened one, and so on (`reached_fresh`, `reached_calls` and `reached_reopened` below)
pub record Reached (s : Session) : Type 0 where
  pub givens : List Given
  pub solution : List ℕ
  pub opens : Opens givens solution
  pub calls : List Call
  pub kept : Kept s (keep (new_book givens solution) calls)

-- that book
unfoldable pub book_of : (s : Session) → Reached s → Book
book_of s r = keep (new_book r.givens r.solution) r.calls

-- a list of calls from a session is answered as from the book, and leaves what the book then holds
pub record PlaysAs (s : Session) (k : Book) (calls : List Call) : Type 0 where
  pub answered : answers s calls ≡ says_all k calls
  pub kept : Kept (after s calls) (keep k calls)

-- none of 1, 19 and 22 to 27 applies to what opening is handed
pub record Openable (givens solution journal checks : List ℕ) : Type 0 where
  pub journal_length : length journal ≡ journal_bytes
  pub checks_length : length checks ≡ check_memory
  pub threes : length givens % 3 ≡ 0
  pub opens : Opens (triples givens) solution

-- every entry of a list is a byte
unfoldable pub AreBytes : List ℕ → Type 0
AreBytes l = (i : ℕ) → i < length l → get_or l i 0 < 256

-- some givens open with the solution, and some list of calls from their
-- fresh board writes these bytes; after each of the calls the limits hold
pub record Writable (bytes solution : List ℕ) : Type 0 where
  pub givens : List Given
  pub opens : Opens givens solution
  pub calls : List Call
  pub limits : (n : ℕ) → WithinLimits (keep (new_book givens solution) (take n calls))
  pub writes : Writes (after (started (opened_fresh givens solution)) calls) bytes

pub record Demand3 : Type 0 where
  pub opens :
      (givens solution journal checks : List ℕ)
      → ((open_of givens solution journal checks).answer.refusal ≡ accepted) ↔ Openable givens solution journal checks
  pub opened :
      (givens solution journal checks : List ℕ)
      → Openable givens solution journal checks
      → open_of givens solution journal checks ≡ opened_fresh (triples givens) solution
  pub played :
      (givens : List Given) (solution : List ℕ) (calls : List Call)
      → Opens givens solution
      → PlaysAs (started (opened_fresh givens solution)) (new_book givens solution) calls
  -- from the reopened board and memory any other calls go on where the first left the book
  pub played_on :
      (givens : List Given) (solution : List ℕ) (calls more : List Call) (journal checks : List ℕ)
      → Opens givens solution
      → length journal ≡ journal_bytes
      → length checks ≡ check_memory
      → PlaysAs (started (reopen_of (record_in (keep (new_book givens solution) calls)) solution journal checks)) (keep (new_book givens solution) calls) more
  pub reached_fresh :
      (givens : List Given) (solution : List ℕ)
      → Opens givens solution
      → Reached (started (opened_fresh givens solution))
  pub reached_calls : (s : Session) (calls : List Call) → Reached s → Reached (after s calls)
  pub reached_reopened :
      (bytes solution journal checks : List ℕ)
      → AreBytes bytes
      → (reopen_of bytes solution journal checks).answer.refusal ≡ accepted
      → Reached (started (reopen_of bytes solution journal checks))
  pub exactly :
      (bytes solution journal checks : List ℕ)
      → AreBytes bytes
      → length journal ≡ journal_bytes
      → length checks ≡ check_memory
      → ((reopen_of bytes solution journal checks).answer.refusal ≡ accepted) ↔ Writable bytes solution
