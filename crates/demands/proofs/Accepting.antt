-- What an accepted reopening says: the bytes are a record whose givens open,
-- whose moves play, whose undone count fits, and whose checks are admitted.
-- Assumes nothing.
use Prim.Native.Nat.{ℕ}
use mathlib.Core.Path.{◌≡◌, refl, sym, ap, subst, ◌∙◌}
use mathlib.Core.Bool.{true, not}
use mathlib.Core.List.{List}
use lib.Dec.{eqb}
use lib.ListN.{length}
use borrow.Author.Tests.{eqb-true}
use Rattle.sudoku.specs.Tests.{pick, both}
use Rattle.sudoku.proofs.Walks.{by_test, not_both_ways, both_true, pick_true}
use Rattle.sudoku.proofs.Each.{Each}
use Rattle.puzzle.specs.declared.Refusal.{Refusal}
use Rattle.puzzle.specs.Givens.{is_on, given_cells}
use Rattle.puzzle.specs.Refusals.{refusal, accepted, is_accepted, refused_if, or_else}
use Rattle.puzzle.proofs.Accepted.{if_passed, or_else_left, or_else_right}
use Rattle.journal.specs.Limits.{journal_bytes, check_memory}
use Rattle.journal.specs.Bytes.{over}
use Rattle.journal.specs.State.{opening}
use Rattle.board.specs.declared.Board.{Board}
use Rattle.board.specs.Board.{board_of, fresh}
use Rattle.board.specs.Open.{Opened, no_moves, lent_lengths, turned_away}
use Rattle.play.specs.Play.{Played}
use Rattle.record.specs.Scan.{parts_of_bytes}
use Rattle.record.specs.Reopen.{unreadable, replay, to_play, checks_refusal, settled_record, replayed, reopen_of}
use Rattle.record.proofs.Readable.{Readable, readable}
use Rattle.demands.specs.Book.{perform_all, slots_from}
use Rattle.demands.specs.Opens.{Opens}
use Rattle.demands.proofs.Opening.{opens_of, lent_journal, lent_checks, lent_solution, went_on, not_by_length}
use Rattle.demands.proofs.Plays.{Plays}
use Rattle.demands.proofs.Reached.{reached_given}
use Rattle.demands.proofs.Replay.{all_stand, replay_fresh, replay_fresh_plays}
use Rattle.demands.proofs.Asks.{Asks, admitted_all}
use Rattle.demands.proofs.Clean.{clean_unreadable}

pub record Accepted (bytes solution : List ℕ) : Type 0 where
  pub readable : Readable bytes solution
  pub opens : Opens (parts_of_bytes bytes).givens solution
  pub plays : Plays (opening (parts_of_bytes bytes).givens) (parts_of_bytes bytes).moves
  pub final : is_on (perform_all (opening (parts_of_bytes bytes).givens) (parts_of_bytes bytes).moves).solved ≡ true → (parts_of_bytes bytes).undone ≡ 0
  pub asks : Each (Asks (given_cells (parts_of_bytes bytes).givens) solution) (parts_of_bytes bytes).checks

-- where an outcome by a test of a refusal is accepted, it is that of what was done next
then_accepted : (r : Refusal) (o : Opened) → (pick (is_accepted r) o (turned_away r)).answer.refusal ≡ accepted → o.answer.refusal ≡ accepted
then_accepted r o h =
    sym (ap (λ (x : Opened). x.answer.refusal) (pick_true (is_accepted r) o (turned_away r) (went_on r o h))) ∙ h

module _ (bytes solution journal checks : List ℕ) (h : (reopen_of bytes solution journal checks).answer.refusal ≡ accepted) where
  -- 1
  lengths : lent_lengths solution journal checks ≡ true
  unfolding reopen_of
  lengths = not_by_length _ _ journal checks h

  pub was_lent : (length journal ≡ journal_bytes) × (length checks ≡ check_memory)
  was_lent = (lent_journal solution journal checks lengths, lent_checks solution journal checks lengths)

  lent : (pick (is_accepted (unreadable bytes solution)) (replayed (parts_of_bytes bytes) solution) (turned_away (unreadable bytes solution))).answer.refusal ≡ accepted
  unfolding reopen_of
  lent = sym (ap (λ (x : Opened). x.answer.refusal) (pick_true (lent_lengths solution journal checks) _ _ lengths)) ∙ h

  is_readable : Readable bytes solution
  is_readable = readable bytes solution (clean_unreadable bytes solution (went_on (unreadable bytes solution) (replayed (parts_of_bytes bytes) solution) lent))

  do_open : Opens (parts_of_bytes bytes).givens solution
  do_open = opens_of (parts_of_bytes bytes).givens solution (lent_solution solution journal checks lengths) is_readable.ascend is_readable.vouched

  -- the moves
  was_replayed : (replayed (parts_of_bytes bytes) solution).answer.refusal ≡ accepted
  was_replayed = then_accepted (unreadable bytes solution) (replayed (parts_of_bytes bytes) solution) lent

  do_play : Plays (opening (parts_of_bytes bytes).givens) (parts_of_bytes bytes).moves
  unfolding replayed
  do_play =
      replay_fresh_plays (parts_of_bytes bytes).givens solution (parts_of_bytes bytes).moves is_readable.sized.moves
      (went_on (replay (fresh (parts_of_bytes bytes).givens solution) no_moves 1 (parts_of_bytes bytes).moves).answer.refusal _ was_replayed)

  unfoldable last : Board
  last = all_stand solution (perform_all (opening (parts_of_bytes bytes).givens) (parts_of_bytes bytes).moves) (length (parts_of_bytes bytes).moves)

  was_settled : (settled_record (parts_of_bytes bytes) last (over no_moves 0 (slots_from (opening (parts_of_bytes bytes).givens) (parts_of_bytes bytes).moves))).answer.refusal ≡ accepted
  unfolding replayed last
  was_settled =
      ap (λ (x : Played). (settled_record (parts_of_bytes bytes) x.answer.board x.journal).answer.refusal)
      (sym (replay_fresh (parts_of_bytes bytes).givens solution (parts_of_bytes bytes).moves do_play is_readable.sized.moves))
      ∙ then_accepted (replay (fresh (parts_of_bytes bytes).givens solution) no_moves 1 (parts_of_bytes bytes).moves).answer.refusal _ was_replayed

  -- 30 to 33
  last_passed : is_accepted
      (or_else (refused_if (both (is_on last.solved) (not (eqb (parts_of_bytes bytes).undone 0))) (refusal 30 0 0))
      (checks_refusal last (to_play last) 1 (parts_of_bytes bytes).checks))
      ≡ true
  unfolding settled_record
  last_passed = went_on _ _ was_settled

  is_final : is_on (perform_all (opening (parts_of_bytes bytes).givens) (parts_of_bytes bytes).moves).solved ≡ true → (parts_of_bytes bytes).undone ≡ 0
  unfolding last all_stand board_of is_accepted
  is_final s =
      by_test (eqb (parts_of_bytes bytes).undone 0) (λ t. eqb-true (parts_of_bytes bytes).undone 0 t)
      (λ t. absurd (not_both_ways _ (both_true _ _ s (ap not t)) (if_passed _ (refusal 30 0 0) refl (or_else_left _ _ last_passed))))

  do_ask : Each (Asks (given_cells (parts_of_bytes bytes).givens) solution) (parts_of_bytes bytes).checks
  unfolding last all_stand board_of
  do_ask =
      subst (λ (l : List ℕ). Each (Asks l solution) (parts_of_bytes bytes).checks)
      (reached_given (parts_of_bytes bytes).givens solution do_open (parts_of_bytes bytes).moves do_play)
      (admitted_all last 1 (parts_of_bytes bytes).checks (or_else_right (refused_if (both (is_on last.solved) (not (eqb (parts_of_bytes bytes).undone 0))) (refusal 30 0 0)) _ last_passed))

  pub was_accepted : Accepted bytes solution
  was_accepted = record { readable = is_readable; opens = do_open; plays = do_play; final = is_final; asks = do_ask }
