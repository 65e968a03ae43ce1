-- Readings on every board that calls reach, from an opening or from a reopening, the statement: every move that was
-- made is read, and its reading is the book's: kind, target, digit, whether undone, and digits and notes after that
-- move and no later one; for 0 and for a number above made there is no reading, but the refusal 35; and the reading
-- of the last standing move has the board's own digits and notes.
-- The proof stands elsewhere. Assumes nothing.
use Rattle.std.specs.Prelude.{ℕ, ◌-◌, ◌≤◌, ◌<◌, ◌≡◌, ltb, get_or, take}
use Rattle.puzzle.specs.Refusals.{refusal, accepted}
use Rattle.journal.specs.declared.Move.{Move}
use Rattle.journal.specs.declared.Move.TheVariants.{Erase}
use Rattle.journal.specs.State.{State, opening, kind_of, row_in, column_in, digit_in}
use Rattle.readings.specs.declared.Reading.{Reading}
use Rattle.readings.specs.Reading.{no_reading, reading_of}
use Rattle.calls.specs.Session.{Session}
use Rattle.demands.specs.Book.{Book, made, perform_all}
use Rattle.demands.specs.Demand3.{Reached, book_of}

-- move n of the book, n from 1 to made
unfoldable pub move_at : Book → ℕ → Move
move_at b n = get_or b.moves (n - 1) (Erase 0 0)

-- the book's state after its first n moves, whether they stand or not
unfoldable pub state_at : Book → ℕ → State
state_at b n = perform_all (opening b.givens) (take n b.moves)

-- for move n: kind, target, digit, whether undone (n above standing), its index,
-- and digits and notes after moves 1 to n are performed on the givens and empty notes
unfoldable pub reading_in : Book → ℕ → Reading
reading_in b n =
    record {
      refusal = accepted;
      kind = kind_of (move_at b n);
      row = row_in (move_at b n);
      column = column_in (move_at b n);
      digit = digit_in (move_at b n);
      undone = ltb b.standing n;
      index = n;
      digits = (state_at b n).digits;
      notes = (state_at b n).notes;
    }

unfoldable pub read_session : Session → ℕ → Reading
read_session s n = reading_of s.board s.journal n

-- what is read of a session that holds a book, for every n
pub record Reads (s : Session) (b : Book) : Type 0 where
  pub every : (n : ℕ) → 1 ≤ n → n ≤ made b → read_session s n ≡ reading_in b n
  pub none : read_session s 0 ≡ no_reading (refusal 35 0 0)
  pub beyond : (n : ℕ) → made b < n → read_session s n ≡ no_reading (refusal 35 0 0)

-- the reading of the last standing move is the board as it stands
pub record ReadsItself (s : Session) : Type 0 where
  pub digits : (read_session s s.board.standing).digits ≡ s.board.digits
  pub notes : (read_session s s.board.standing).notes ≡ s.board.notes

pub record ReadingsTheorem : Type 0 where
  pub read : (s : Session) (r : Reached s) → Reads s (book_of s r)
  pub standing : (s : Session) → Reached s → 1 ≤ s.board.standing → ReadsItself s
