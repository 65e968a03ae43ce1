-- Calls that make a given book: a record's moves one after the other, moves taken back,
-- and for each stored check a line of play that leads up to it and is undone afterwards.
-- Assumes nothing.
use Prim.Native.Nat.{ℕ, zero, suc, ◌+◌, ◌-◌, ◌≤◌, ◌<◌}
use mathlib.Core.Path.{◌≡◌, refl, sym, ap, subst, ◌∙◌}
use mathlib.Core.Bool.{true, false, not}
use mathlib.Core.List.{List, [], ◌∷◌, ◌++◌, append_assoc, append-nil, map}
use native.Mathlib.Nat.{le_refl, zero-add}
use native.Mathlib.Omega.{arith}
use lib.Dec.{eqb}
use lib.ListN.{length, take, replicate, length-append}
use lib.Seq.{take-length}
use borrow.Author.Tests.{ne_eqb}
use Rattle.puzzle.specs.Givens.{is_on}
use Rattle.sudoku.specs.Tests.{◌⇒◌, first}
use Rattle.sudoku.proofs.Walks.{no_if, first_none, not_is_false}
use Rattle.sudoku.specs.Grid.{on_grid, cell_of}
use Rattle.puzzle.specs.declared.Given.{Given}
use Rattle.journal.specs.declared.Move.{Move}
use Rattle.journal.specs.Limits.{max_moves, max_checks}
use Rattle.journal.specs.State.{State, opening, digit_at, holds_players_digit}
use Rattle.journal.specs.StoredChecks.{Stored, judge}
use Rattle.play.specs.Play.{move_tests}
use Rattle.calls.specs.declared.Call.{Call}
use Rattle.calls.specs.declared.Call.TheVariants.{Make, Undo, Check}
use Rattle.demands.specs.Book.{Book, perform_all, state_in, refused_by, added, taken, with_moves, check_in, step, keep}
use Rattle.demands.proofs.Plays.{Passes, Plays, perform_append}
use Rattle.demands.proofs.Added.{ask_for, asked_added}
use Rattle.demands.proofs.Refusals.{first_last, passes_allowed, refused_added, refused_undo, refused_check, step_taken}

-- ---- steps of any book

-- the call that asks for a move, and those that ask for a list of moves
abbrev pub make : Move → Call
make m = Make (ask_for m)

abbrev pub make_all : List Move → List Call
make_all ms = map make ms

pub keep_append : (k : Book) (cs ds : List Call) → keep k (cs ++ ds) ≡ keep (keep k cs) ds
unfolding keep
keep_append k [] ds = refl
keep_append k (c ∷ cs) ds = keep_append (step k c) cs ds

-- a move that passes is added by its call, and drops those after standing
module _ (k : Book) (m : Move) (p : Passes (state_in k) m) (h : k.standing < max_moves) where
  its_own : added (state_in k) (ask_for m) ≡ m
  its_own = asked_added (state_in k) m (passes_allowed (state_in k) m p)

  make_accepted : refused_by k (make m) ≡ 0
  unfolding Passes
  make_accepted =
      refused_added k (ask_for m)
      ∙ ap (λ (n : Move). first (move_tests (state_in k) n ++ ((eqb k.standing max_moves ⇒ 15) ∷ []))) its_own
      ∙ first_last (move_tests (state_in k) m) (eqb k.standing max_moves) 15 (ne_eqb k.standing max_moves (λ e. omega arith))
      ∙ p

  made_drops : step k (make m) ≡ with_moves k (take k.standing k.moves ++ (m ∷ [])) (k.standing + 1)
  unfolding taken
  made_drops = step_taken k (make m) make_accepted ∙ ap (λ (n : Move). with_moves k (take k.standing k.moves ++ (n ∷ [])) (k.standing + 1)) its_own

pub undo_accepted : (k : Book) → is_on (state_in k).solved ≡ false → 1 ≤ k.standing → refused_by k Undo ≡ 0
undo_accepted k p h =
    refused_undo k ∙ no_if (is_on (state_in k).solved) 4 _ p ∙ no_if (eqb k.standing 0) 12 [] (ne_eqb k.standing 0 (λ e. omega arith)) ∙ first_none

pub check_accepted : (k : Book) (row column : ℕ) → on_grid row column ≡ true → is_on (state_in k).solved ≡ false
    → holds_players_digit (state_in k) (cell_of row column) ≡ true → length k.checks < max_checks → refused_by k (Check row column) ≡ 0
check_accepted k row column on p holds h =
    refused_check k row column
    ∙ no_if (not (on_grid row column)) 3 _ (not_is_false (on_grid row column) on)
    ∙ no_if (is_on (state_in k).solved) 4 _ p
    ∙ no_if (not (holds_players_digit (state_in k) (cell_of row column))) 6 _ (not_is_false _ holds)
    ∙ no_if (eqb (length k.checks) max_checks) 16 [] (ne_eqb (length k.checks) max_checks (λ e. omega arith))
    ∙ first_none

-- ---- books of one puzzle

module _ (givens : List Given) (solution : List ℕ) where
  unfoldable pub book_of : List Move → ℕ → List Stored → Book
  book_of moves standing checks =
      record { givens = givens; solution = solution; moves = moves; standing = standing; checks = checks }

  -- one move more where all stand
  one_more : (old : List Move) (cs : List Stored) (m : Move) → Passes (perform_all (opening givens) old) m → length old < max_moves
      → step (book_of old (length old) cs) (make m) ≡ book_of (old ++ (m ∷ [])) (length (old ++ (m ∷ []))) cs
  unfolding book_of state_in with_moves
  one_more old cs m p h =
      made_drops (book_of old (length old) cs) m (subst (λ (l : List Move). Passes (perform_all (opening givens) l) m) (sym (take-length old)) p) h
      ∙ (λ i. book_of (take-length old i ++ (m ∷ [])) (sym (length-append old (m ∷ [])) i) cs)

  -- moves made where all that there are stand
  makes_more : (ms old : List Move) (cs : List Stored) → Plays (perform_all (opening givens) old) ms → length old + length ms ≤ max_moves
      → keep (book_of old (length old) cs) (make_all ms) ≡ book_of (old ++ ms) (length (old ++ ms)) cs
  unfolding keep Plays perform_all
  makes_more [] old cs p h = ap (λ (l : List Move). book_of l (length l) cs) (sym (append-nil old))
  makes_more (m ∷ ms) old cs p h =
      ap (λ (k : Book). keep k (make_all ms)) (one_more old cs m p.0 (omega arith))
      ∙ makes_more ms (old ++ (m ∷ [])) cs
      (subst (λ (s : State). Plays s ms) (sym (perform_append (opening givens) old (m ∷ []))) p.1)
      (omega (arith, length-append old (m ∷ [])))
      ∙ ap (λ (l : List Move). book_of l (length l) cs) (append_assoc old (m ∷ []) ms)

  -- the first move made where none stands drops all that there are
  makes : (m : Move) (ms old : List Move) (cs : List Stored) → Plays (opening givens) (m ∷ ms) → length (m ∷ ms) ≤ max_moves
      → keep (book_of old 0 cs) (make_all (m ∷ ms)) ≡ book_of (m ∷ ms) (length (m ∷ ms)) cs
  unfolding keep Plays perform_all book_of state_in with_moves
  makes m ms old cs p h =
      ap (λ (k : Book). keep k (make_all ms)) (made_drops (book_of old 0 cs) m p.0 (omega arith))
      ∙ makes_more ms (m ∷ []) cs p.1 (omega arith)

  pub makes_some : (ms old : List Move) (cs : List Stored) → Plays (opening givens) ms → length ms ≤ max_moves → 1 ≤ length ms
      → keep (book_of old 0 cs) (make_all ms) ≡ book_of ms (length ms) cs
  makes_some [] old cs p h u = absurd (omega arith)
  makes_some (m ∷ ms) old cs p h u = makes m ms old cs p h

  -- n moves taken back
  pub undos : (n standing : ℕ) (ms : List Move) (cs : List Stored)
      → (1 ≤ n → (i : ℕ) → i ≤ n + standing → is_on (perform_all (opening givens) (take i ms)).solved ≡ false)
      → keep (book_of ms (n + standing) cs) (replicate n Undo) ≡ book_of ms standing cs
  unfolding keep book_of state_in taken with_moves
  undos zero standing ms cs p = ap (λ (i : ℕ). book_of ms i cs) (zero-add standing)
  undos (suc n) standing ms cs p =
      ap (λ (k : Book). keep k (replicate n Undo))
      (step_taken (book_of ms (suc n + standing) cs) Undo
      (undo_accepted (book_of ms (suc n + standing) cs) (p (omega arith) (suc n + standing) (le_refl (suc n + standing))) (omega arith))
      ∙ ap (λ (i : ℕ). book_of ms i cs) less)
      ∙ undos n standing ms cs (λ u i h. p (omega arith) i (omega arith))
    where
      less : suc n + standing - 1 ≡ n + standing
      less = omega arith

  -- a check asked where a player's digit stands
  pub asks : (ms : List Move) (standing : ℕ) (cs : List Stored) (row column : ℕ)
      → on_grid row column ≡ true
      → is_on (perform_all (opening givens) (take standing ms)).solved ≡ false
      → holds_players_digit (perform_all (opening givens) (take standing ms)) (cell_of row column) ≡ true
      → length cs < max_checks
      → step (book_of ms standing cs) (Check row column)
      ≡ book_of ms standing (cs ++ (judge solution standing row column (digit_at (perform_all (opening givens) (take standing ms)) (cell_of row column)) ∷ []))
  unfolding book_of state_in taken check_in
  asks ms standing cs row column on p holds h =
      step_taken (book_of ms standing cs) (Check row column) (check_accepted (book_of ms standing cs) row column on p holds h)
