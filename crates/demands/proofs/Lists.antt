-- Lists of calls: what each call answers is what the book says, and what they leave holds the book after them.
-- Assumes nothing.
use mathlib.Core.Path.{◌≡◌, refl, sym, ap, subst, ◌∙◌}
use mathlib.Core.List.{List, [], ◌∷◌}
use Prim.Native.Nat.{ℕ}
use lib.ListN.{length-replicate}
use Rattle.puzzle.specs.declared.Given.{Given}
use Rattle.journal.specs.Limits.{journal_bytes, check_memory}
use Rattle.journal.specs.StoredChecks.{stored_all}
use Rattle.board.specs.Board.{fresh}
use Rattle.board.specs.Open.{opened_fresh, no_moves, no_checks}
use Rattle.calls.specs.declared.Call.{Call}
use Rattle.calls.specs.declared.Call.TheVariants.{Make, Undo, Redo, Check}
use Rattle.calls.specs.Session.{Session, Said, after, answers, started}
use Rattle.demands.specs.Book.{Book, new_book, made, perform_all, state_in, taken, with_moves, step, says, keep, says_all, slots_from, slots_in}
use Rattle.demands.specs.Demand3.{board_in, Reached, book_of}
use Rattle.demands.proofs.Refusals.{after_step}
use Rattle.demands.proofs.Good.{Good, good_new, good_step, good_keep}
use Rattle.demands.proofs.Held.{Held}
use Rattle.demands.proofs.Steps.{session_of, Agrees, agrees}

pub record AgreesAll (k : Book) (journal checks : List ℕ) (cs : List Call) : Type 0 where
  pub journal_after : List ℕ
  pub checks_after : List ℕ
  pub said : answers (session_of k journal checks) cs ≡ says_all k cs
  pub left : after (session_of k journal checks) cs ≡ session_of (keep k cs) journal_after checks_after
  pub held : Held journal_after checks_after (keep k cs)

-- one call, then the rest
and_then : (k : Book) (journal checks : List ℕ) (c : Call) (cs : List Call) (one : Agrees k journal checks c)
    → AgreesAll (step k c) one.journal_after one.checks_after cs → AgreesAll k journal checks (c ∷ cs)
unfolding after answers keep says_all
and_then k journal checks c cs one rest =
    record {
      journal_after = rest.journal_after;
      checks_after = rest.checks_after;
      said = (λ i. one.said i ∷ answers (one.left i) cs) ∙ ap (λ (l : List Said). says k c ∷ l) rest.said;
      left = ap (λ (s : Session). after s cs) one.left ∙ rest.left;
      held = rest.held;
    }

pub agrees_all : (k : Book) (journal checks : List ℕ) (cs : List Call) → Good k → Held journal checks k → AgreesAll k journal checks cs
unfolding after answers keep says_all
agrees_all k journal checks [] g h = record { journal_after = journal; checks_after = checks; said = refl; left = refl; held = h }
agrees_all k journal checks (c ∷ cs) g h =
    and_then k journal checks c cs (agrees k journal checks g h c)
    (agrees_all (step k c) (agrees k journal checks g h c).journal_after (agrees k journal checks g h c).checks_after cs (good_step k g c)
    (agrees k journal checks g h c).held)

-- ---- what no call changes

-- a part of the book that no accepted call changes
module _ {A : Type 0} (part : Book → A) (same : (k : Book) (c : Call) → part (taken k c) ≡ part k) where
  keep_same : (k : Book) (cs : List Call) → part (keep k cs) ≡ part k
  unfolding keep
  keep_same k [] = refl
  keep_same k (c ∷ cs) = keep_same (step k c) cs ∙ after_step k c (λ (b : Book). part b ≡ part k) refl (λ p. same k c)

taken_same : (k : Book) (c : Call) → ((taken k c).givens ≡ k.givens) × ((taken k c).solution ≡ k.solution)
unfolding taken with_moves
taken_same k (Make a) = (refl, refl)
taken_same k Undo = (refl, refl)
taken_same k Redo = (refl, refl)
taken_same k (Check row column) = (refl, refl)

pub keep_givens : (k : Book) (cs : List Call) → (keep k cs).givens ≡ k.givens
keep_givens k cs = keep_same (λ b. b.givens) (λ b c. (taken_same b c).0) k cs

pub keep_solution : (k : Book) (cs : List Call) → (keep k cs).solution ≡ k.solution
keep_solution k cs = keep_same (λ b. b.solution) (λ b c. (taken_same b c).1) k cs

-- ---- from the fresh board

module _ (givens : List Given) (solution : List ℕ) where
  pub fresh_session : started (opened_fresh givens solution) ≡ session_of (new_book givens solution) no_moves no_checks
  unfolding started opened_fresh fresh board_in state_in new_book made perform_all
  fresh_session = refl

  pub fresh_held : Held no_moves no_checks (new_book givens solution)
  unfolding new_book made slots_in slots_from stored_all no_moves no_checks
  fresh_held =
      record { slots = refl; journal_length_lem = length-replicate {A = ℕ} journal_bytes 0; stored = refl; checks_length_lem = length-replicate {A = ℕ} check_memory 0 }

-- ---- every session that calls reach

-- what holds of every session that holds a book, and of the book, holds of it and of its own
pub of_book : (s : Session) (r : Reached s) (P : Session → Book → Type 0)
    → ((k : Book) (journal checks : List ℕ) → Good k → Held journal checks k → P (session_of k journal checks) k) → P s (book_of s r)
unfolding book_of
of_book s r P all =
    subst (λ (x : Session). P x (keep (new_book r.givens r.solution) r.calls))
    (λ i. record { board = sym r.kept.board i; journal = s.journal; checks = s.checks })
    (all (keep (new_book r.givens r.solution) r.calls) s.journal s.checks
    (good_keep (new_book r.givens r.solution) r.calls (good_new r.givens r.solution r.opens))
    (record { slots = r.kept.slots; journal_length_lem = r.kept.journal_length; stored = r.kept.checks; checks_length_lem = r.kept.checks_length }))
