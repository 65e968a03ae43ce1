-- Demand 3, proved: givens open exactly when they should, opening returns the fresh board, every answer is the book's,
-- the board and the memory hold the book, what is written is the book's record, reopens to all
-- of these and plays on; and bytes reopen exactly when some list of calls writes them.
-- Assumes nothing.
use Prim.Native.Nat.{ℕ, ◌+◌, ◌-◌}
use mathlib.Core.Path.{◌≡◌, refl, sym, ap, subst, ◌∙◌}
use mathlib.Core.List.{List, [], ◌∷◌, ◌++◌, map}
use native.Mathlib.Omega.{arith}
use lib.ListN.{length, take, replicate, length-replicate}
use Rattle.puzzle.specs.declared.Given.{Given}
use Rattle.puzzle.specs.Refusals.{accepted}
use Rattle.journal.specs.Limits.{journal_bytes, check_memory, record_bytes}
use Rattle.journal.specs.Bytes.{over}
use Rattle.journal.specs.StoredChecks.{judged, stored_all}
use Rattle.board.specs.Open.{Opened, opened_fresh, no_moves, no_checks}
use Rattle.journal.specs.declared.Asked.{Asked}
use Rattle.record.specs.Items.{record_of}
use Rattle.record.specs.Scan.{parts_of_bytes}
use Rattle.record.specs.Write.{Wrote, wrote}
use Rattle.record.specs.Reopen.{reopen_of}
use Rattle.record.proofs.WriteBack.{bytes_record, are_bytes}
use Rattle.calls.specs.declared.Call.{Call}
use Rattle.calls.specs.Session.{Session, after, started}
use Rattle.demands.specs.Book.{Book, new_book, made, keep, asked, parts_of_book, record_in, slots_in}
use Rattle.demands.specs.Opens.{Opens}
use Rattle.demands.specs.Demand3.{reopened_book, Writes, Kept, Reached, book_of as reached_book, PlaysAs, AreBytes, Writable, Demand3}
use Rattle.demands.proofs.Opening.{opens_exactly, opened}
use Rattle.demands.proofs.Making.{book_of, keep_append}
use Rattle.demands.proofs.Good.{Good, good_new, good_keep}
use Rattle.demands.proofs.Held.{Held, starts_with, laid_held}
use Rattle.demands.proofs.Steps.{session_of}
use Rattle.demands.proofs.Lists.{AgreesAll, agrees_all, keep_solution, fresh_session, fresh_held, of_book}
use Rattle.demands.proofs.Writing.{book_short, book_writes}
use Rattle.demands.proofs.Reopening.{book_reopens}
use Rattle.demands.proofs.CallsFor.{calls_for, makes_record}
use Rattle.demands.proofs.Accepting.{Accepted, was_lent, was_accepted}

-- ---- what holds a book, and calls from it

pub kept_session : (k : Book) (journal checks : List ℕ) → Good k → Held journal checks k → Kept (session_of k journal checks) k
kept_session k journal checks g h =
    record {
      board = refl;
      slots = h.slots;
      checks = h.stored;
      journal_length = h.journal_length_lem;
      checks_length = h.checks_length_lem;
      limits = record { moves = g.few; checks = g.few_checks };
      short = book_short k g;
      writes = book_writes k journal checks g h;
      reopens = book_reopens k g;
    }

-- any calls from a session that holds a book go as in the book
pub plays_as : (k : Book) (journal checks : List ℕ) (calls : List Call) → Good k → Held journal checks k → PlaysAs (session_of k journal checks) k calls
plays_as k journal checks calls g h =
    record {
      answered = all.said;
      kept = subst (λ (s : Session). Kept s (keep k calls)) (sym all.left) (kept_session (keep k calls) all.journal_after all.checks_after (good_keep k calls g) all.held);
    }
  where
    all : AgreesAll k journal checks calls
    all = agrees_all k journal checks calls g h

played : (givens : List Given) (solution : List ℕ) (calls : List Call) → Opens givens solution
    → PlaysAs (started (opened_fresh givens solution)) (new_book givens solution) calls
played givens solution calls o =
    subst (λ (s : Session). PlaysAs s (new_book givens solution) calls) (sym (fresh_session givens solution))
    (plays_as (new_book givens solution) no_moves no_checks calls (good_new givens solution o) (fresh_held givens solution))

-- ---- and from a reopened one

same_solution : (givens : List Given) (solution : List ℕ) (cs : List Call) → (keep (new_book givens solution) cs).solution ≡ solution
unfolding new_book
same_solution givens solution cs = keep_solution (new_book givens solution) cs

reopened_session : (k : Book) → started (reopened_book k) ≡ session_of k (over no_moves 0 (slots_in k)) (over no_checks 0 (stored_all k.checks))
unfolding started reopened_book
reopened_session k = refl

plays_on : (k : Book) (solution journal checks : List ℕ) (calls : List Call) → Good k → solution ≡ k.solution
    → length journal ≡ journal_bytes → length checks ≡ check_memory → PlaysAs (started (reopen_of (record_in k) solution journal checks)) k calls
plays_on k solution journal checks calls g e j c =
    subst (λ (s : Session). PlaysAs s k calls)
    (sym
    (ap (λ (l : List ℕ). started (reopen_of (record_in k) l journal checks)) e
    ∙ ap started (book_reopens k g journal checks j c)
    ∙ reopened_session k))
    (plays_as k (over no_moves 0 (slots_in k)) (over no_checks 0 (stored_all k.checks)) calls g (laid_held k g))

-- ---- what calls reach

reached_calls : (s : Session) (calls : List Call) → Reached s → Reached (after s calls)
unfolding reached_book
reached_calls s calls r =
    record {
      givens = r.givens;
      solution = r.solution;
      opens = r.opens;
      calls = r.calls ++ calls;
      kept =
          subst (λ (k : Book). Kept (after s calls) k) (sym (keep_append (new_book r.givens r.solution) r.calls calls))
          (of_book s r (λ (x : Session) (k : Book). Kept (after x calls) (keep k calls)) (λ k journal checks g h. (plays_as k journal checks calls g h).kept));
    }

reached_fresh : (givens : List Given) (solution : List ℕ) → Opens givens solution → Reached (started (opened_fresh givens solution))
unfolding after
reached_fresh givens solution o = record { givens = givens; solution = solution; opens = o; calls = []; kept = (played givens solution [] o).kept }

-- ---- bytes that reopen are written by some calls

-- the checks of a record, judged and then without their verdicts
asked_same : (solution : List ℕ) (cs : List Asked) → map asked (map (judged solution) cs) ≡ cs
unfolding asked
asked_same solution [] = refl
asked_same solution (c ∷ cs) = λ i. c ∷ asked_same solution cs i

module _ (bytes solution : List ℕ) (are : AreBytes bytes) (a : Accepted bytes solution) where
  unfoldable theirs : List Call
  theirs = calls_for (parts_of_bytes bytes).moves (parts_of_bytes bytes).undone (parts_of_bytes bytes).checks

  -- the book that they make
  their_book : keep (new_book (parts_of_bytes bytes).givens solution) theirs
      ≡ book_of (parts_of_bytes bytes).givens solution (parts_of_bytes bytes).moves (length (parts_of_bytes bytes).moves - (parts_of_bytes bytes).undone)
      (map (judged solution) (parts_of_bytes bytes).checks)
  unfolding theirs
  their_book =
      makes_record (parts_of_bytes bytes).givens solution a.opens (parts_of_bytes bytes).moves (parts_of_bytes bytes).undone (parts_of_bytes bytes).checks
      a.plays a.readable.sized.moves a.readable.counted.undone a.final a.asks a.readable.sized.in_time a.readable.sized.checks
      a.readable.counted.asked

  -- its record is the bytes
  their_record : record_in (keep (new_book (parts_of_bytes bytes).givens solution) theirs) ≡ bytes
  unfolding record_in parts_of_book book_of made AreBytes
  their_record =
      ap record_in their_book
      ∙ (λ i.
      record_of
      (record {
        givens = (parts_of_bytes bytes).givens;
        moves = (parts_of_bytes bytes).moves;
        undone = less i;
        checks = asked_same solution (parts_of_bytes bytes).checks i;
      }))
      ∙ bytes_record bytes (are_bytes bytes are) a.readable.formed
    where
      less : length (parts_of_bytes bytes).moves - (length (parts_of_bytes bytes).moves - (parts_of_bytes bytes).undone) ≡ (parts_of_bytes bytes).undone
      less = omega (arith, a.readable.counted.undone)

  are_written : Writable bytes solution
  are_written =
      record {
        givens = (parts_of_bytes bytes).givens;
        opens = a.opens;
        calls = theirs;
        limits = λ n. (played (parts_of_bytes bytes).givens solution (take n theirs) a.opens).kept.limits;
        writes =
            subst (λ (l : List ℕ). Writes (after (started (opened_fresh (parts_of_bytes bytes).givens solution)) theirs) l) their_record
            (played (parts_of_bytes bytes).givens solution theirs a.opens).kept.writes;
      }

  -- and what they reopen to is what calls reach
  reached_record : (journal checks : List ℕ) → length journal ≡ journal_bytes → length checks ≡ check_memory → Reached (started (reopen_of bytes solution journal checks))
  unfolding after keep
  reached_record journal checks j c =
      record {
        givens = (parts_of_bytes bytes).givens;
        solution = solution;
        opens = a.opens;
        calls = theirs;
        kept =
            subst (λ (l : List ℕ). Kept (started (reopen_of l solution journal checks)) (keep (new_book (parts_of_bytes bytes).givens solution) theirs)) their_record
            (plays_on (keep (new_book (parts_of_bytes bytes).givens solution) theirs) solution journal checks []
            (good_keep (new_book (parts_of_bytes bytes).givens solution) theirs (good_new (parts_of_bytes bytes).givens solution a.opens))
            (sym (same_solution (parts_of_bytes bytes).givens solution theirs)) j c
            ).kept;
      }

-- ---- bytes that some calls write reopen

module _ (bytes solution : List ℕ) (w : Writable bytes solution) where
  unfoldable book : Book
  book = keep (new_book w.givens solution) w.calls

  book_kept : Kept (after (started (opened_fresh w.givens solution)) w.calls) book
  unfolding book
  book_kept = (played w.givens solution w.calls w.opens).kept

  -- an output of zeros that is long enough for both, and what stands in it after both
  blank : List ℕ
  blank = replicate (length bytes + record_bytes) 0

  blank_length : length blank ≡ length bytes + record_bytes
  unfolding blank
  blank_length = length-replicate {A = ℕ} (length bytes + record_bytes) 0

  both_written : wrote accepted (length bytes) (over blank 0 bytes) ≡ wrote accepted (length (record_in book)) (over blank 0 (record_in book))
  both_written =
      sym (w.writes.written blank (omega (arith, blank_length)))
      ∙ book_kept.writes.written blank (omega (arith, blank_length, book_kept.short))

  same_bytes : bytes ≡ record_in book
  same_bytes =
      sym (starts_with blank bytes (omega (arith, blank_length)))
      ∙ (λ i. take (ap (λ (x : Wrote). x.answer.length) both_written i) (both_written i).output)
      ∙ starts_with blank (record_in book) (omega (arith, book_kept.short, blank_length))

  do_reopen : (journal checks : List ℕ) → length journal ≡ journal_bytes → length checks ≡ check_memory → (reopen_of bytes solution journal checks).answer.refusal ≡ accepted
  unfolding reopened_book book
  do_reopen journal checks j c =
      (λ i. (reopen_of (same_bytes i) (sym (same_solution w.givens solution w.calls) i) journal checks).answer.refusal)
      ∙ ap (λ (x : Opened). x.answer.refusal) (book_kept.reopens journal checks j c)

-- ---- demand 3

pub demand3 : Demand3
demand3 =
    record {
      opens = opens_exactly;
      opened = opened;
      played = played;
      played_on =
          λ givens solution calls more journal checks o j c.
          plays_on (keep (new_book givens solution) calls) solution journal checks more (good_keep (new_book givens solution) calls (good_new givens solution o))
          (sym (same_solution givens solution calls)) j c;
      reached_fresh = reached_fresh;
      reached_calls = reached_calls;
      reached_reopened =
          λ bytes solution journal checks are h.
          reached_record bytes solution are (was_accepted bytes solution journal checks h) journal checks (was_lent bytes solution journal checks h).0
          (was_lent bytes solution journal checks h).1;
      exactly =
          λ bytes solution journal checks are j c. (
            (λ h. are_written bytes solution are (was_accepted bytes solution journal checks h)),
            (λ w. do_reopen bytes solution w journal checks j c),
          );
    }
