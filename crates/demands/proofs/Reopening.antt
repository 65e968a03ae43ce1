-- A book's record reopens to the book: its board, the slots of its
-- moves, its checks, zero beyond; whatever the lent memory held.
-- Assumes nothing.
use Prim.Native.Nat.{ℕ, ◌-◌, ◌≤◌, ◌<◌}
use mathlib.Core.Path.{◌≡◌, refl, sym, ap, subst, ◌∙◌}
use mathlib.Core.Bool.{true, false, not}
use mathlib.Core.List.{List, [], ◌∷◌, map}
use native.Mathlib.Nat.{le_refl}
use native.Mathlib.Omega.{arith}
use lib.Dec.{eqb}
use lib.ListN.{length, length-replicate, length-map}
use lib.Seq.{take-length}
use borrow.Author.Tests.{eq-eqb}
use Rattle.sudoku.specs.Tests.{pick, both}
use Rattle.sudoku.proofs.Walks.{by_test, both_false_left, both_false_right, not_is_false, pick_true}
use Rattle.sudoku.proofs.Each.{Each, each_to, each_map}
use Rattle.puzzle.specs.declared.Given.{Given}
use Rattle.puzzle.specs.Givens.{is_on, ascending, given_cells}
use Rattle.puzzle.specs.Refusals.{refusal, accepted, is_accepted}
use Rattle.puzzle.proofs.Posed.{Vouched}
use Rattle.puzzle.proofs.Accepted.{accepts, if_not, or_else_of}
use Rattle.journal.specs.declared.Move.{Move}
use Rattle.journal.specs.Limits.{journal_bytes, check_memory}
use Rattle.journal.specs.Counts.{counts}
use Rattle.journal.specs.Bytes.{over}
use Rattle.journal.specs.State.{State, opening}
use Rattle.journal.specs.StoredChecks.{Stored, stored_all, judged}
use Rattle.board.specs.declared.Board.{Board}
use Rattle.board.specs.Board.{state_of, counts_of, board_of, fresh}
use Rattle.board.specs.Open.{answer, no_moves, no_checks, turned_away}
use Rattle.play.specs.Play.{Played, played}
use Rattle.journal.specs.declared.Asked.{Asked}
use Rattle.record.specs.Items.{Parts}
use Rattle.record.specs.Scan.{parts_of_bytes}
use Rattle.record.specs.Reopen.{replay, take_back_all, to_play, checks_refusal, reopened, settled_record, replayed, reopen_of}
use Rattle.record.proofs.ReadBack.{CheckFits, record_formed, record_parts}
use Rattle.record.proofs.Readable.{InTime, Sized, Counted, Readable, readable_of}
use Rattle.demands.specs.Book.{Book, made, perform_all, state_in, with_moves, slots_in, asked, parts_of_book, record_in}
use Rattle.demands.specs.Demand3.{board_in, reopened_book}
use Rattle.demands.proofs.Opening.{opens_ascending, opens_vouched, lengths_right}
use Rattle.demands.proofs.Reached.{reached_given}
use Rattle.demands.proofs.Good.{Admitted, Good}
use Rattle.demands.proofs.Held.{Held, laid_slots, laid_journal}
use Rattle.demands.proofs.Replay.{all_stand, replay_fresh, back_all}
use Rattle.demands.proofs.Asks.{Asks, admits_all}

-- ---- one check

module _ (givens : List Given) (solution : List ℕ) where
  -- reopening asks no more of it
  pub admitted_asks : (c : Stored) → Admitted givens solution c → Asks (given_cells givens) solution (asked c)
  unfolding asked opening
  admitted_asks c a =
      record { grid = a.grid; free = a.free; range = a.range; some = λ e. omega (arith, a.some, e); unfinished = a.unfinished }

  -- and judges it as it was judged
  judged_same : (cs : List Stored) → Each (Admitted givens solution) cs → map (judged solution) (map asked cs) ≡ cs
  unfolding Each asked
  judged_same [] h = refl
  judged_same (c ∷ cs) h =
      λ i.
      record { standing = c.standing; row = c.row; column = c.column; digit = c.digit; right = sym h.0.verdict i }
      ∷ judged_same cs h.1 i

module _ (k : Book) (g : Good k) where
  -- ---- 17 to 27

  undone_fits : made k - k.standing < 65536
  undone_fits = omega (arith, g.few)

  -- what is true of every check that reopening admits
  all_asked : (P : Asked → Type 0) → ((c : Stored) → Admitted k.givens k.solution c → P (asked c)) → Each P (map asked k.checks)
  all_asked P f = each_map P asked k.checks (each_to (Admitted k.givens k.solution) (λ (c : Stored). P (asked c)) f k.checks g.admitted)

  all_fit : Each CheckFits (map asked k.checks)
  unfolding asked
  all_fit = all_asked CheckFits (λ c a. omega (arith, a.few))

  parts_back : parts_of_bytes (record_in k) ≡ parts_of_book k
  unfolding record_in parts_of_book
  parts_back = record_parts (parts_of_book k) undone_fits all_fit

  book_sized : Sized (parts_of_book k)
  unfolding parts_of_book made asked
  book_sized =
      record {
        moves = g.few;
        checks = omega (arith, g.few_checks, length-map k.checks asked);
        in_time = all_asked InTime (λ c a. a.few);
      }

  book_counted : Counted (parts_of_book k)
  unfolding parts_of_book made
  book_counted = record { undone = omega arith; asked = λ e. length-map k.checks asked ∙ g.asked e }

  book_readable : Readable (record_in k) k.solution
  unfolding record_in parts_of_book
  book_readable =
      record {
        formed = record_formed (parts_of_book k) undone_fits all_fit;
        sized = subst Sized (sym parts_back) book_sized;
        ascend = subst (λ (p : Parts). ascending p.givens ≡ true) (sym parts_back) (opens_ascending k.givens k.solution g.opens);
        counted = subst Counted (sym parts_back) book_counted;
        vouched = subst (λ (p : Parts). Vouched p.givens k.solution) (sym parts_back) (opens_vouched k.givens k.solution g.opens);
      }

  -- ---- the moves

  unfoldable last : State
  last = perform_all (opening k.givens) k.moves

  moves_replayed : replay (fresh k.givens k.solution) no_moves 1 k.moves
      ≡ played accepted (all_stand k.solution last (made k)) (over no_moves 0 (slots_in k))
  unfolding last made slots_in
  moves_replayed = replay_fresh k.givens k.solution k.moves g.plays g.few

  -- the book with all its moves standing, and without checks
  unfoldable full : Book
  full = record { givens = k.givens; solution = k.solution; moves = k.moves; standing = made k; checks = [] }

  full_good : Good full
  unfolding full made Each
  full_good =
      record {
        opens = g.opens;
        plays = g.plays;
        within = le_refl (made k);
        few = g.few;
        few_checks = omega arith;
        final = λ s. refl;
        asked = λ e. refl;
        admitted = tt;
      }

  full_held : Held (over no_moves 0 (slots_in k)) no_checks full
  unfolding full made slots_in stored_all no_checks
  full_held = record { slots = laid_slots k g; journal_length_lem = laid_journal k g; stored = refl; checks_length_lem = length-replicate {A = ℕ} check_memory 0 }

  full_board : all_stand k.solution last (made k) ≡ board_in full
  unfolding all_stand board_in full state_in made last
  full_board =
      ap (λ (l : List Move). board_of (perform_all (opening k.givens) l) k.solution (counts (made k) (made k)) 0) (sym (take-length k.moves))

  taken_back_all : take_back_all (made k - k.standing) (all_stand k.solution last (made k)) (over no_moves 0 (slots_in k)) ≡ board_in (with_moves full k.moves k.standing)
  unfolding full with_moves last
  taken_back_all =
      ap (λ (b : Board). take_back_all (made k - k.standing) b (over no_moves 0 (slots_in k))) full_board
      ∙ back_all (made k - k.standing) full (over no_moves 0 (slots_in k)) no_checks full_good full_held (omega arith) unsolved
      ∙ ap (λ (n : ℕ). board_in (with_moves full k.moves n)) {x = made k - (made k - k.standing)} {y = k.standing} (omega (arith, g.within))
    where
      unsolved : 1 ≤ made k - k.standing → is_on (perform_all (opening k.givens) k.moves).solved ≡ false
      unsolved u =
          by_test (is_on (perform_all (opening k.givens) k.moves).solved) (λ t. absurd (omega (arith, g.final t))) (λ t. t)

  -- ---- 30 to 33

  last_given : (all_stand k.solution last (made k)).given ≡ given_cells k.givens
  unfolding all_stand board_of last
  last_given = reached_given k.givens k.solution g.opens k.moves g.plays

  nothing_undone : both (is_on (all_stand k.solution last (made k)).solved) (not (eqb (made k - k.standing) 0)) ≡ false
  unfolding all_stand board_of last
  nothing_undone =
      by_test (is_on (perform_all (opening k.givens) k.moves).solved)
      (λ t. both_false_right _ _ (not_is_false _ (eq-eqb (made k - k.standing) 0 (omega (arith, g.final t)))))
      (λ t. both_false_left _ _ t)

  checks_admitted : checks_refusal (all_stand k.solution last (made k)) (to_play (all_stand k.solution last (made k))) 1 (map asked k.checks) ≡ accepted
  unfolding all_stand board_of
  checks_admitted =
      admits_all (all_stand k.solution last (made k)) 1 (map asked k.checks)
      (all_asked (Asks last.given k.solution)
      (λ c a. subst (λ (l : List ℕ). Asks l k.solution (asked c)) (sym last_given) (admitted_asks k.givens k.solution c a)))

  -- ---- what is handed back

  book_back : reopened (board_in (with_moves full k.moves k.standing)) (over no_moves 0 (slots_in k)) (map asked k.checks) ≡ reopened_book k
  unfolding reopened reopened_book board_in board_of state_of counts_of full with_moves state_in made
  book_back =
      λ i.
      record {
        answer = answer accepted (board_of (state_in k) k.solution (counts (made k) k.standing) (length-map k.checks asked i));
        journal = over no_moves 0 (slots_in k);
        checks = over no_checks 0 (stored_all (judged_same k.givens k.solution k.checks g.admitted i));
      }

  settled : settled_record (parts_of_book k) (all_stand k.solution last (made k)) (over no_moves 0 (slots_in k)) ≡ reopened_book k
  unfolding settled_record parts_of_book
  settled =
      pick_true _ _ _ (accepts _ (or_else_of _ _ (accepts _ (if_not _ (refusal 30 0 0) nothing_undone)) checks_admitted))
      ∙ ap (λ (b : Board). reopened b (over no_moves 0 (slots_in k)) (map asked k.checks)) taken_back_all
      ∙ book_back

  book_replayed : replayed (parts_of_book k) k.solution ≡ reopened_book k
  unfolding replayed parts_of_book pick is_accepted
  book_replayed =
      ap (λ (x : Played). pick (is_accepted x.answer.refusal) (settled_record (parts_of_book k) x.answer.board x.journal) (turned_away x.answer.refusal)) moves_replayed
      ∙ settled

  pub book_reopens : (journal checks : List ℕ) → length journal ≡ journal_bytes → length checks ≡ check_memory
      → reopen_of (record_in k) k.solution journal checks ≡ reopened_book k
  unfolding reopen_of
  book_reopens journal checks j c =
      pick_true _ _ _ (lengths_right k.solution journal checks g.opens.cells j c)
      ∙ pick_true _ _ _ (accepts _ (readable_of (record_in k) k.solution book_readable))
      ∙ ap (λ (p : Parts). replayed p k.solution) parts_back
      ∙ book_replayed
