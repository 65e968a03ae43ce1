-- A board that holds what a book holds, with memory that does, writes the book's record into every output that is
-- long enough, whatever it held; a shorter one is refused by 34 and stays; and a record has at most 5,955 bytes.
-- Assumes nothing.
use Prim.Native.Nat.{ℕ, ◌-◌, ◌≤◌, ◌<◌}
use mathlib.Core.Path.{◌≡◌, refl, sym, ap, ◌∙◌}
use mathlib.Core.Bool.{Bool, true}
use mathlib.Core.List.{List, [], map}
use lib.Dec.{eqb}
use native.Mathlib.Omega.{arith}
use lib.ListN.{length, take, length-map}
use borrow.Author.Tests.{eq-eqb, le-ltb, lt-ltb}
use Rattle.sudoku.proofs.Walks.{both_true, first_none, pick_true, pick_false}
use Rattle.sudoku.proofs.Each.{Each, each_to}
use Rattle.sudoku.specs.Tests.{both}
use Rattle.sudoku.specs.Grid.{cell_of}
use Rattle.puzzle.specs.Givens.{given_cells}
use Rattle.puzzle.specs.declared.Refusal.{Refusal}
use Rattle.puzzle.specs.Refusals.{refusal, accepted, is_accepted}
use Rattle.puzzle.proofs.Accepted.{accepts, if_not, or_else_next, or_else_of}
use Rattle.puzzle.proofs.Refusals.{refused_if_lem}
use Rattle.journal.specs.Limits.{journal_bytes, check_memory, record_bytes}
use Rattle.journal.specs.Bytes.{over}
use Rattle.journal.specs.State.{opening, digit_at}
use Rattle.journal.specs.StoredChecks.{Stored}
use Rattle.board.specs.Board.{state_of, board_of}
use Rattle.play.specs.Play.{journal_refusal}
use Rattle.record.specs.Items.{Parts, record_of}
use Rattle.record.specs.Write.{givens_of, moves_of, asked_of, parts_of, unwritable, write_refusal, wrote, wrote_by, write_of}
use Rattle.record.proofs.Givens.{givens_kept}
use Rattle.record.proofs.Lengths.{record_short}
use Rattle.record.proofs.Held.{StoredFits, CheckSound, asked_held, checks_sound}
use Rattle.demands.specs.Book.{Book, made, state_in, slots_in, asked, parts_of_book, record_in}
use Rattle.demands.specs.Demand3.{board_in, write_session, Writes}
use Rattle.demands.proofs.Opening.{opens_grid, opens_rising, opening_given, opening_fit}
use Rattle.demands.proofs.Slots.{journal_moves, journal_sound}
use Rattle.demands.proofs.Reached.{digits_kept}
use Rattle.demands.proofs.Good.{Admitted, Good, standing_plays, good_given, good_is_given}
use Rattle.demands.proofs.Held.{Held, lent_passed}
use Rattle.demands.proofs.Steps.{session_of}

-- ---- what is written

pub book_short : (k : Book) → Good k → length (record_in k) ≤ record_bytes
unfolding record_in parts_of_book made
book_short k g =
    record_short (parts_of_book k) (omega (arith, g.opens.left)) g.few (omega (arith, g.few_checks, length-map k.checks asked))

module _ (k : Book) (g : Good k) where
  same_given : (board_in k).given ≡ given_cells k.givens
  unfolding board_in board_of
  same_given = good_given k g

  pub same_givens : givens_of (board_in k) ≡ k.givens
  unfolding board_in board_of state_in opening digit_at
  same_givens =
      givens_kept k.givens (opens_grid k.givens k.solution g.opens) (opens_rising k.givens k.solution g.opens) (board_in k) same_given
      (λ cell is t.
      digits_kept (opening k.givens) (take k.standing k.moves) cell is (opening_given k.givens k.solution g.opens cell is ∙ t) (standing_plays k g))

module _ (k : Book) (journal checks : List ℕ) (g : Good k) (h : Held journal checks k) where
  same_moves : moves_of journal (made k) ≡ k.moves
  unfolding made slots_in
  same_moves = journal_moves journal (opening k.givens) k.moves h.slots

  checks_fit : Each StoredFits k.checks
  checks_fit = each_to (Admitted k.givens k.solution) StoredFits (λ c a. omega (arith, a.few)) k.checks g.admitted

  same_asked : asked_of checks (length k.checks) ≡ map asked k.checks
  unfolding asked
  same_asked = asked_held checks k.checks (length k.checks) refl checks_fit h.stored

  same_parts : parts_of (board_in k) journal checks ≡ parts_of_book k
  unfolding parts_of parts_of_book board_in board_of
  same_parts =
      λ i. record { givens = same_givens k g i; moves = same_moves i; undone = made k - k.standing; checks = same_asked i }

  check_sound : (c : Stored) → Admitted k.givens k.solution c → CheckSound (state_in k) c
  check_sound c a =
      record { grid = a.grid; free = good_is_given k g (cell_of c.row c.column) ∙ a.free; some = a.some; in_time = a.few; range = a.range }

  -- tests 1, 2 and 14 pass for the board and the journal of a book
  pub journal_accepted : (fits : Bool) → fits ≡ true → journal_refusal fits (board_in k) journal ≡ accepted
  unfolding journal_refusal board_in board_of state_of made opening state_in slots_in
  journal_accepted fits e =
      or_else_of _ _ (accepts _ (ap (λ (n : ℕ). refusal n 0 0) (lent_passed k g fits e [] ∙ first_none)))
      (journal_sound journal (opening k.givens) k.moves h.slots (state_in k) (opening_fit k.givens k.solution g.opens) g.plays (sym (same_given k g)))

  record_same : length (record_of (parts_of (board_in k) journal checks)) ≡ length (record_in k)
  unfolding record_in
  record_same = ap (λ (p : Parts). length (record_of p)) same_parts

  -- 1, 2 and 14 refuse nothing
  writable : unwritable (board_in k) journal checks ≡ accepted
  unfolding unwritable board_in board_of state_of made opening state_in slots_in
  writable =
      let lent = journal_accepted (both (eqb (length journal) journal_bytes) (eqb (length checks) check_memory))
      (both_true _ _ (eq-eqb (length journal) journal_bytes h.journal_length_lem) (eq-eqb (length checks) check_memory h.checks_length_lem)) in
      let stored = checks_sound checks k.checks (length k.checks) refl checks_fit h.stored (state_in k)
      (each_to (Admitted k.givens k.solution) (CheckSound (state_in k)) check_sound k.checks g.admitted) in
      or_else_of _ _ (accepts _ lent) stored

  written : (output : List ℕ) → length (record_in k) ≤ length output
      → write_session (session_of k journal checks) output ≡ wrote accepted (length (record_in k)) (over output 0 (record_in k))
  unfolding write_session write_of wrote_by write_refusal record_in
  written output e =
      pick_true _ _ _
      (accepts _
      (or_else_of _ _ (accepts _ writable)
      (if_not _ (refusal 34 0 0)
      (le-ltb (length output) (length (record_of (parts_of (board_in k) journal checks))) (omega (arith, e, record_same))))))
      ∙ ap (λ (p : Parts). wrote accepted (length (record_of p)) (over output 0 (record_of p))) same_parts

  refused_short : (output : List ℕ) → length output < length (record_in k) → write_refusal (board_in k) journal checks output ≡ refusal 34 0 0
  unfolding write_refusal
  refused_short output u =
      or_else_next _ _ (accepts _ writable)
      ∙ refused_if_lem _ (refusal 34 0 0)
      (lt-ltb (length output) (length (record_of (parts_of (board_in k) journal checks))) (omega (arith, u, record_same)))

  too_short : (output : List ℕ) → length output < length (record_in k)
      → write_session (session_of k journal checks) output ≡ wrote (refusal 34 0 0) 0 output
  unfolding write_session write_of wrote_by is_accepted
  too_short output u =
      pick_false _ _ _ (ap is_accepted (refused_short output u)) ∙ ap (λ (r : Refusal). wrote r 0 output) (refused_short output u)

  pub book_writes : Writes (session_of k journal checks) (record_in k)
  book_writes = record { written = written; too_short = too_short }
