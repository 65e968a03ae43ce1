-- Reopening's replay: a record's moves performed on the fresh board fill the journal with their slots, and are
-- accepted exactly where they play; and taking back n moves of a book's board lowers its standing count by n.
-- Assumes nothing.
use Prim.Native.Nat.{ℕ, zero, suc, ◌+◌, ◌-◌, ◌*◌, ◌≤◌, ◌<◌}
use mathlib.Core.Path.{◌≡◌, refl, sym, ap, ◌∙◌}
use mathlib.Core.Bool.{true, false}
use mathlib.Core.List.{List, [], ◌∷◌, ◌++◌, append_assoc, append-nil}
use native.Mathlib.Nat.{zero-add}
use native.Mathlib.Omega.{arith}
use lib.Dec.{eqb}
use lib.ListN.{length, length-append, length-replicate}
use borrow.Author.Tests.{eq-eqb, eqb-true}
use Rattle.puzzle.specs.Givens.{is_on}
use Rattle.sudoku.specs.Tests.{first}
use Rattle.sudoku.proofs.Walks.{by_test, not_both_ways, pick_true, pick_false}
use Rattle.puzzle.specs.declared.Given.{Given}
use Rattle.puzzle.specs.Refusals.{accepted, is_accepted}
use Rattle.journal.specs.declared.Move.{Move}
use Rattle.journal.specs.declared.Counts.{Counts}
use Rattle.journal.specs.Limits.{max_moves, slot_bytes, journal_bytes}
use Rattle.journal.specs.Counts.{counts}
use Rattle.journal.specs.Bytes.{over}
use Rattle.journal.specs.State.{State, opening, perform}
use Rattle.journal.specs.Slots.{slot_for, bytes_of}
use Rattle.journal.proofs.Memory.{over_nil, over_join}
use Rattle.board.specs.declared.Board.{Board}
use Rattle.board.specs.declared.Answer.{Answer}
use Rattle.board.specs.Board.{state_of, counts_of, board_of, moved, fresh}
use Rattle.board.specs.Open.{no_moves}
use Rattle.play.specs.Play.{Played, played, move_tests, record_move}
use Rattle.record.specs.Reopen.{replay, take_back_all}
use Rattle.calls.specs.declared.Call.TheVariants.{Undo}
use Rattle.demands.specs.Book.{Book, perform_all, state_in, refused_by, taken, with_moves, slots_from}
use Rattle.demands.specs.Demand3.{board_in}
use Rattle.demands.proofs.Plays.{Passes, Plays, recorded_one}
use Rattle.demands.proofs.Refusals.{passes_unsolved}
use Rattle.demands.proofs.Reached.{on_the_way}
use Rattle.demands.proofs.Making.{undo_accepted}
use Rattle.demands.proofs.Good.{Good, good_taken}
use Rattle.demands.proofs.Held.{Held}
use Rattle.demands.proofs.Steps.{undo_board, held_standing}

-- a board with i moves, all standing, and no checks
unfoldable pub all_stand : List ℕ → State → ℕ → Board
all_stand solution s i = board_of s solution (counts i i) 0

module _ (solution : List ℕ) (memory : List ℕ) where
  -- one move recorded behind i moves' slots
  one_recorded : (s : State) (m : Move) (i : ℕ) (slots : List ℕ) → i < max_moves → length slots ≡ slot_bytes * i → length memory ≡ journal_bytes
      → record_move (all_stand solution s i) (over memory 0 slots) m ≡ played accepted (all_stand solution (perform s m) (i + 1)) (over memory 0 (slots ++ bytes_of (slot_for s m)))
  unfolding record_move all_stand board_of moved state_of counts_of bytes_of
  one_recorded s m i slots room e size =
      λ j. played accepted (board_of (perform s m) solution (recorded_one i i (omega arith) room j) 0) (joined j)
    where
      joined : over (over memory 0 slots) (slot_bytes * i) (bytes_of (slot_for s m)) ≡ over memory 0 (slots ++ bytes_of (slot_for s m))
      joined =
          ap (λ (n : ℕ). over (over memory 0 slots) n (bytes_of (slot_for s m))) {x = slot_bytes * i} {y = 0 + length slots} (omega arith)
          ∙ over_join memory 0 slots (omega arith) (bytes_of (slot_for s m)) (omega arith)

  next_board : (s : State) (m : Move) (i : ℕ) → i < max_moves → (journal : List ℕ)
      → (record_move (all_stand solution s i) journal m).answer.board ≡ all_stand solution (perform s m) (i + 1)
  unfolding record_move all_stand board_of moved state_of counts_of
  next_board s m i room journal = ap (λ (c : Counts). board_of (perform s m) solution c 0) (recorded_one i i (omega arith) room)

  longer : (s : State) (m : Move) (i : ℕ) (slots : List ℕ) → length slots ≡ slot_bytes * i → length (slots ++ bytes_of (slot_for s m)) ≡ slot_bytes * (i + 1)
  unfolding bytes_of
  longer s m i slots e = omega (arith, length-append slots (bytes_of (slot_for s m)))

  -- moves that play are performed and recorded, one after the other
  pub replay_plays : (s : State) (ms : List Move) (i n : ℕ) (slots : List ℕ) → Plays s ms → i + length ms ≤ max_moves → length slots ≡ slot_bytes * i
      → length memory ≡ journal_bytes
      → replay (all_stand solution s i) (over memory 0 slots) n ms ≡ played accepted (all_stand solution (perform_all s ms) (i + length ms)) (over memory 0 (slots ++ slots_from s ms))
  unfolding replay Plays perform_all slots_from Passes all_stand board_of state_of
  replay_plays s [] i n slots p u e size = λ j. played accepted (all_stand solution s (sum j)) (over memory 0 (sym (append-nil slots) j))
    where
      sum : i ≡ i + 0
      sum = omega arith
  replay_plays s (m ∷ ms) i n slots p u e size =
      pick_false (is_on s.solved) _ _ (passes_unsolved s m p.0)
      ∙ pick_true (eqb (first (move_tests s m)) 0) _ _ (eq-eqb (first (move_tests s m)) 0 p.0)
      ∙ ap (λ (x : Played). replay x.answer.board x.journal (suc n) ms) (one_recorded s m i slots (omega arith) e size)
      ∙ replay_plays (perform s m) ms (i + 1) (suc n) (slots ++ bytes_of (slot_for s m)) p.1 (omega arith) (longer s m i slots e) size
      ∙ (λ j. played accepted (all_stand solution (perform_all (perform s m) ms) (sum j)) (over memory 0 (append_assoc slots (bytes_of (slot_for s m)) (slots_from (perform s m) ms) j)))
    where
      sum : i + 1 + length ms ≡ i + suc (length ms)
      sum = omega arith

  -- moves that were all performed play
  pub replay_accepted : (s : State) (ms : List Move) (i n : ℕ) (journal : List ℕ) → i + length ms ≤ max_moves
      → is_accepted (replay (all_stand solution s i) journal n ms).answer.refusal ≡ true → Plays s ms
  unfolding replay Plays Passes is_accepted all_stand board_of state_of
  replay_accepted s [] i n journal u p = tt
  replay_accepted s (m ∷ ms) i n journal u p =
      by_test (is_on s.solved)
      (λ t. absurd (not_both_ways false (sym (ap (λ (x : Played). is_accepted x.answer.refusal) (pick_true (is_on s.solved) _ _ t)) ∙ p) refl))
      (λ t.
      by_test (eqb (first (move_tests s m)) 0)
      (λ v. (
        eqb-true (first (move_tests s m)) 0 v,
        replay_accepted (perform s m) ms (i + 1) (suc n) (record_move (all_stand solution s i) journal m).journal (omega arith)
            (sym
            (ap (λ (x : Played). is_accepted x.answer.refusal)
            (pick_false (is_on s.solved) _ _ t
            ∙ pick_true (eqb (first (move_tests s m)) 0) _ _ v
            ∙ ap (λ (b : Board). replay b (record_move (all_stand solution s i) journal m).journal (suc n) ms) (next_board s m i (omega arith) journal)))
            ∙ p),
      ))
      (λ v. absurd (not_both_ways false
      (sym
      (ap (λ (x : Played). is_accepted x.answer.refusal)
      (pick_false (is_on s.solved) _ _ t ∙ pick_false (eqb (first (move_tests s m)) 0) _ _ v)) ∙ p) refl)))

-- on the fresh board
pub replay_fresh : (givens : List Given) (solution : List ℕ) (ms : List Move) → Plays (opening givens) ms → length ms ≤ max_moves
    → replay (fresh givens solution) no_moves 1 ms
    ≡ played accepted (all_stand solution (perform_all (opening givens) ms) (length ms)) (over no_moves 0 (slots_from (opening givens) ms))
unfolding fresh all_stand no_moves
replay_fresh givens solution ms p h =
    ap (λ (l : List ℕ). replay (fresh givens solution) l 1 ms) (sym (over_nil no_moves 0))
    ∙ replay_plays solution no_moves (opening givens) ms 0 1 [] p (omega arith) refl (length-replicate {A = ℕ} journal_bytes 0)
    ∙ ap (λ (n : ℕ). played accepted (all_stand solution (perform_all (opening givens) ms) n) (over no_moves 0 (slots_from (opening givens) ms))) (zero-add (length ms))

pub replay_fresh_plays : (givens : List Given) (solution : List ℕ) (ms : List Move) → length ms ≤ max_moves
    → is_accepted (replay (fresh givens solution) no_moves 1 ms).answer.refusal ≡ true → Plays (opening givens) ms
unfolding fresh all_stand
replay_fresh_plays givens solution ms h p = replay_accepted solution no_moves (opening givens) ms 0 1 no_moves (omega arith) p

-- ---- taking back

-- n moves of a book's board taken back
pub back_all : (n : ℕ) (k : Book) (journal checks : List ℕ) → Good k → Held journal checks k → n ≤ k.standing
    → (1 ≤ n → is_on (perform_all (opening k.givens) k.moves).solved ≡ false)
    → take_back_all n (board_in k) journal ≡ board_in (with_moves k k.moves (k.standing - n))
unfolding take_back_all with_moves taken state_in
back_all zero k journal checks g h u p = ap (λ (i : ℕ). board_in (with_moves k k.moves i)) {x = k.standing} {y = k.standing - 0} (omega arith)
back_all (suc n) k journal checks g h u p =
    ap (λ (a : Answer). take_back_all n a.board journal) (undo_board k journal checks g h may)
    ∙ back_all n (taken k Undo) journal checks (good_taken k g Undo may) (held_standing k journal checks g h (k.standing - 1)) (omega arith) (λ v. p (omega arith))
    ∙ ap (λ (i : ℕ). board_in (with_moves k k.moves i)) {x = k.standing - 1 - n} {y = k.standing - suc n} (omega arith)
  where
    may : refused_by k Undo ≡ 0
    may = undo_accepted k (on_the_way (opening k.givens) k.moves g.plays (p (omega arith)) k.standing) (omega arith)
