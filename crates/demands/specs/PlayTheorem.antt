-- Demand 3 of bytes, the statement: what crate calls' run of encoded calls leaves and answers is what the book says.
-- The contract of pawdoku_play equates the compiled code with that run, so this speaks of the code.
-- From the fresh board of givens that open, and from every board that calls reach:
-- where every whole group of the bytes encodes a call and the answers have room, the
-- answers' bytes are the book's answers, and the board and the memory hold the book.
-- And every list of calls has bytes that encode it.
-- The proof stands elsewhere. Assumes nothing.
use Rattle.std.specs.Prelude.{ℕ, ◌*◌, ◌≤◌, ◌≡◌, List, map, length, Some}
use Rattle.puzzle.specs.declared.Given.{Given}
use Rattle.journal.specs.Bytes.{over}
use Rattle.board.specs.Open.{opened_fresh}
use Rattle.calls.specs.declared.Call.{Call}
use Rattle.calls.specs.Session.{Session, started}
use Rattle.calls.specs.Encoded.{call_bytes, decoded, encoded, answers_bytes, Ran, run_of}
use Rattle.demands.specs.Book.{Book, new_book, keep, says_all}
use Rattle.demands.specs.Opens.{Opens}
use Rattle.demands.specs.Demand3.{Kept, Reached, book_of}

-- what a run left and wrote into the answers is what the book k says of these calls
pub record RanAsBook (x : Ran) (k : Book) (calls : List Call) (answers : List ℕ) : Type 0 where
  pub answered : x.answers ≡ over answers 0 (answers_bytes (says_all k calls))
  pub kept : Kept x.left (keep k calls)

pub record PlayTheorem : Type 0 where
  pub played :
      (givens : List Given) (solution : List ℕ) (calls : List Call) (bytes answers : List ℕ)
      → Opens givens solution
      → decoded bytes ≡ map Some calls
      → call_bytes * length calls ≤ length answers
      → RanAsBook (run_of (started (opened_fresh givens solution)) bytes answers) (new_book givens solution) calls answers
  -- the same of every board that calls reach, from an opening or from a reopening
  pub reached :
      (s : Session) (r : Reached s) (calls : List Call) (bytes answers : List ℕ)
      → decoded bytes ≡ map Some calls
      → call_bytes * length calls ≤ length answers
      → RanAsBook (run_of s bytes answers) (book_of s r) calls answers
  pub every_list : (calls : List Call) → decoded (encoded calls) ≡ map Some calls
