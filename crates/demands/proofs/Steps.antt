-- Each call on the board that holds what a book holds: it answers what the
-- book says, and leaves the board and the memory that hold the book after it.
-- Assumes nothing.
use Prim.Native.Nat.{ℕ, ◌+◌, ◌-◌, ◌*◌, ◌<◌}
use mathlib.Core.Path.{◌≡◌, refl, sym, ap, subst, ◌∙◌}
use mathlib.Core.Bool.{Bool, true, false, not}
use mathlib.Core.List.{List, [], ◌∷◌, ◌++◌}
use native.Mathlib.Numerals.{add-one}
use native.Mathlib.Omega.{arith}
use lib.Dec.{eqb, leb}
use lib.ListN.{length, take, length-append}
use lib.Seq.{take_all}
use borrow.Author.Tests.{eq-eqb, ne_eqb, eqb-true, eqb-false, le-leb, lt-leb, leb-true}
use Rattle.puzzle.specs.Givens.{is_on}
use Rattle.sudoku.specs.Tests.{◌⇒◌, first, pick, both}
use Rattle.sudoku.proofs.Walks.{by_test, no_if, both_true, not_is_false, pick_true, pick_false, same_test}
use Rattle.puzzle.specs.declared.Refusal.{Refusal}
use Rattle.puzzle.specs.Refusals.{refusal, accepted}
use Rattle.journal.specs.declared.Move.{Move}
use Rattle.journal.specs.Limits.{max_moves, slot_bytes, check_bytes, journal_bytes, check_memory}
use Rattle.journal.specs.Counts.{counts, recorded, taken_back, retaken}
use Rattle.journal.specs.Bytes.{over}
use Rattle.journal.specs.State.{State, opening, perform, perform_again, take_back, before, struck, stands_as_left, stands_as_found}
use Rattle.journal.specs.Slots.{slot_for, bytes_of, slot_at, move_of, is_sound}
use Rattle.journal.specs.StoredChecks.{stored_bytes}
use Rattle.journal.proofs.Moves.{Fit, Allowed, given_kept, performed_again, taken_back_lem, stands_left, stands_found, slot_sound, move_kept}
use Rattle.board.specs.declared.Answer.{Answer}
use Rattle.board.specs.Board.{state_of, counts_of, board_of, moved, lent_tests}
use Rattle.board.specs.Open.{answer}
use Rattle.play.specs.declared.Play.{Play}
use Rattle.play.specs.Play.{Played, played, move_for, call_tests, record_move, play_of, slot_refusal, can_take_back, undo_before, undo_tests, undone, undo_of, can_retake, redo_before, redo_tests, redone, redo_of}
use Rattle.play.specs.Check.{CheckPlayed, check_tests, check_on, checked, with_check, check_of}
use Rattle.calls.specs.declared.Call.{Call}
use Rattle.calls.specs.declared.Call.TheVariants.{Make, Undo, Redo, Check}
use Rattle.calls.specs.Session.{Session, Called, called, call_of}
use Rattle.demands.specs.Book.{Book, made, perform_all, state_in, refused_by, added, taken, with_moves, check_in, slots_in, verdict, step, says}
use Rattle.demands.specs.Demand3.{board_in}
use Rattle.demands.proofs.Plays.{Passes, move_no, plays_take, plays_next, perform_append, perform_next, recorded_one, length_one_more}
use Rattle.demands.proofs.Added.{same_move}
use Rattle.demands.proofs.Refusals.{passes_unsolved, passes_allowed, refused_make, refused_undo, refused_redo, refused_check, step_taken, step_refused}
use Rattle.demands.proofs.Reached.{reached_fit}
use Rattle.demands.proofs.Good.{Good, make_room, undo_unsolved, undo_some, redo_some, check_room}
use Rattle.demands.proofs.Held.{Held, held_slot, held_make, held_check, lent_passed}

-- the board that holds a book's, with memory
abbrev pub session_of : Book → List ℕ → List ℕ → Session
session_of k journal checks = record { board = board_in k; journal = journal; checks = checks }

-- a call answers what the book says, and leaves what holds the book after it
pub record Agrees (k : Book) (journal checks : List ℕ) (c : Call) : Type 0 where
  pub journal_after : List ℕ
  pub checks_after : List ℕ
  pub said : (call_of (session_of k journal checks) c).said ≡ says k c
  pub left : (call_of (session_of k journal checks) c).left ≡ session_of (step k c) journal_after checks_after
  pub held : Held journal_after checks_after (step k c)

module _ (k : Book) (journal checks : List ℕ) (c : Call) where
  -- an accepted call
  agrees_accepted : (journal' checks' : List ℕ) → refused_by k c ≡ 0
      → call_of (session_of k journal checks) c ≡ called accepted (verdict k c) (board_in (taken k c)) journal' checks'
      → Held journal' checks' (taken k c) → Agrees k journal checks c
  unfolding called says both
  agrees_accepted journal' checks' p e h =
      record {
        journal_after = journal';
        checks_after = checks';
        said = ap (λ (x : Called). x.said) e
            ∙ (λ i. record { refusal = refusal (sym p i) 0 0; right = both (eqb (sym p i) 0) (verdict k c) });
        left = ap (λ (x : Called). x.left) e ∙ ap (λ (b : Book). session_of b journal' checks') (sym (step_taken k c p));
        held = subst (λ (b : Book). Held journal' checks' b) (sym (step_taken k c p)) h;
      }

  -- a refused call
  agrees_refused : eqb (refused_by k c) 0 ≡ false
      → call_of (session_of k journal checks) c ≡ called (refusal (refused_by k c) 0 0) false (board_in k) journal checks
      → Held journal checks k → Agrees k journal checks c
  unfolding called says both
  agrees_refused p e h =
      record {
        journal_after = journal;
        checks_after = checks;
        said = ap (λ (x : Called). x.said) e ∙ (λ i. record { refusal = refusal (refused_by k c) 0 0; right = both (sym p i) (verdict k c) });
        left = ap (λ (x : Called). x.left) e ∙ ap (λ (b : Book). session_of b journal checks) (sym (step_refused k c p));
        held = subst (λ (b : Book). Held journal checks b) (sym (step_refused k c p)) h;
      }

  -- either way
  agrees_by : (journal' checks' : List ℕ) → Held journal checks k
      → (refused_by k c ≡ 0 → call_of (session_of k journal checks) c ≡ called accepted (verdict k c) (board_in (taken k c)) journal' checks')
      → (refused_by k c ≡ 0 → Held journal' checks' (taken k c))
      → (eqb (refused_by k c) 0 ≡ false → call_of (session_of k journal checks) c ≡ called (refusal (refused_by k c) 0 0) false (board_in k) journal checks)
      → Agrees k journal checks c
  agrees_by journal' checks' h done holds refused =
      by_test (eqb (refused_by k c) 0) (λ t. let p = eqb-true (refused_by k c) 0 t in agrees_accepted journal' checks' p (done p) (holds p))
      (λ t. agrees_refused t (refused t) h)

-- what a call hands back, by the number n that its own tests give, which is the book's number m
module _ {A : Type 0} (n m : ℕ) (e : n ≡ m) (done : A) (refused : ℕ → A) where
  was_done : m ≡ 0 → pick (eqb n 0) done (refused n) ≡ done
  was_done p = pick_true (eqb n 0) done (refused n) (eq-eqb n 0 (e ∙ p))

  was_refused : eqb m 0 ≡ false → pick (eqb n 0) done (refused n) ≡ refused m
  was_refused p = pick_false (eqb n 0) done (refused n) (ap (λ (x : ℕ). eqb x 0) e ∙ p) ∙ ap refused e

-- ---- place, erase and pencil

module _ (k : Book) (g : Good k) where
  -- the state one move on
  pub made_state : (a : Play) → state_in (taken k (Make a)) ≡ perform (state_in k) (added (state_in k) a)
  unfolding state_in taken with_moves made perform_all
  made_state a =
      ap (λ (l : List Move). perform_all (opening k.givens) l)
      (take_all (k.standing + 1) (take k.standing k.moves ++ (added (state_in k) a ∷ []))
      (omega (arith, length_one_more k.moves k.standing (added (state_in k) a) g.within)))
      ∙ perform_append (opening k.givens) (take k.standing k.moves) (added (state_in k) a ∷ [])

  made_count : (a : Play) → k.standing < max_moves → recorded (counts (made k) k.standing) ≡ counts (made (taken k (Make a))) (k.standing + 1)
  unfolding taken with_moves made
  made_count a room =
      recorded_one (made k) k.standing g.within room
      ∙ ap (λ (n : ℕ). counts n (k.standing + 1)) {x = k.standing + 1} {y = length (take k.standing k.moves ++ (added (state_in k) a ∷ []))}
      (omega (arith, length_one_more k.moves k.standing (added (state_in k) a) g.within))

module _ (k : Book) (journal checks : List ℕ) (g : Good k) (h : Held journal checks k) where
  play_number : (a : Play) → first (call_tests (board_in k) journal a) ≡ refused_by k (Make a)
  unfolding call_tests board_in board_of state_of
  play_number a = lent_passed k g (eqb (length journal) journal_bytes) (eq-eqb (length journal) journal_bytes h.journal_length_lem) _ ∙ sym (refused_make k a)

  -- the journal with the slot of the move that a call adds
  unfoldable with_slot : Play → List ℕ
  with_slot a = over journal (slot_bytes * k.standing) (bytes_of (slot_for (state_in k) (added (state_in k) a)))

  -- that move recorded gives the board of the book after the call
  recorded_board : (a : Play) → k.standing < max_moves → record_move (board_in k) journal (move_for (state_in k) a) ≡ played accepted (board_in (taken k (Make a))) (with_slot a)
  unfolding record_move board_in board_of moved state_of counts_of taken with_moves with_slot
  recorded_board a room =
      ap (λ (m : Move). record_move (board_in k) journal m) (same_move (state_in k) a)
      ∙ (λ i. played accepted (board_of (sym (made_state k g a) i) k.solution (made_count k g a room i) (length k.checks)) (with_slot a))

  room_for : (a : Play) → refused_by k (Make a) ≡ 0 → k.standing < max_moves
  room_for a p = omega (arith, make_room k a p, g.within, g.few)

  make_agrees : (a : Play) → Agrees k journal checks (Make a)
  unfolding play_of call_of verdict board_in board_of state_of with_slot
  make_agrees a =
      agrees_by k journal checks (Make a) (with_slot a) checks h
      (λ p. ap said (was_done n (refused_by k (Make a)) (play_number a) (record_move (board_in k) journal (move_for (state_in k) a)) refused p ∙ recorded_board a (room_for a p)))
      (λ p. held_make journal checks k h a g.within (room_for a p))
      (λ t. ap said (was_refused n (refused_by k (Make a)) (play_number a) (record_move (board_in k) journal (move_for (state_in k) a)) refused t))
    where
      n : ℕ
      n = first (call_tests (board_in k) journal a)

      refused : ℕ → Played
      refused i = played (refusal i 0 0) (board_in k) journal

      said : Played → Called
      said x = called x.answer.refusal false x.answer.board x.journal checks

-- ---- undo and redo

-- two tests, and a third that does not hold, or is not reached
third_test : (a b c : Bool) (n : ℕ) → (a ≡ false → b ≡ false → c ≡ false) → first ((a ⇒ 4) ∷ (b ⇒ n) ∷ (c ⇒ 14) ∷ []) ≡ first ((a ⇒ 4) ∷ (b ⇒ n) ∷ [])
unfolding first pick
third_test true b c n p = refl
third_test false true c n p = refl
third_test false false c n p = no_if c 14 [] (p refl refl)

-- their numbers are not 14, whose place would be told
no_place : (a b : Bool) (n slot : ℕ) → eqb n 14 ≡ false → slot_refusal (first ((a ⇒ 4) ∷ (b ⇒ n) ∷ [])) slot ≡ refusal (first ((a ⇒ 4) ∷ (b ⇒ n) ∷ [])) 0 0
unfolding slot_refusal first pick
no_place true b n slot p = refl
no_place false true n slot p = ap (λ (t : Bool). refusal n (pick t slot 0) 0) p
no_place false false n slot p = refl

-- a move n + 1 that is made, in the states before it and after it
module _ (k : Book) (g : Good k) (n : ℕ) (u : n < made k) where
  unfoldable pub before_it : State
  before_it = perform_all (opening k.givens) (take n k.moves)

  unfoldable pub its_move : Move
  its_move = move_no k.moves n

  it_passes : Passes before_it its_move
  unfolding before_it its_move made
  it_passes = plays_next (opening k.givens) k.moves n u g.plays

  it_allowed : Allowed before_it its_move
  it_allowed = passes_allowed before_it its_move it_passes

  it_fit : Fit before_it
  unfolding before_it
  it_fit = reached_fit k.givens k.solution g.opens (take n k.moves) (plays_take (opening k.givens) k.moves n g.plays)

  it_after : perform_all (opening k.givens) (take (n + 1) k.moves) ≡ perform before_it its_move
  unfolding before_it its_move made
  it_after = ap (λ (i : ℕ). perform_all (opening k.givens) (take i k.moves)) (add-one n) ∙ perform_next (opening k.givens) k.moves n u

  -- its slot can be taken back in the state after it
  can_back : can_take_back (perform before_it its_move) (slot_for before_it its_move) ≡ true
  unfolding can_take_back is_sound slot_for
  can_back =
      both_true _ _
      (ap (λ (l : List ℕ). is_sound l (slot_for before_it its_move)) (given_kept before_it its_move)
      ∙ slot_sound before_it its_move it_fit it_allowed)
      (ap (λ (m : Move). stands_as_left (perform before_it its_move) m (struck before_it its_move)) (move_kept before_it its_move)
      ∙ stands_left before_it its_move it_fit it_allowed)

  -- and performed again in the state before it
  can_again : can_retake before_it (slot_for before_it its_move) ≡ true
  unfolding can_retake slot_for
  can_again =
      both_true _ _ (slot_sound before_it its_move it_fit it_allowed)
      (ap (λ (m : Move). stands_as_found before_it m (before before_it its_move) (struck before_it its_move)) (move_kept before_it its_move)
      ∙ stands_found before_it its_move it_allowed)

module _ (k : Book) (journal checks : List ℕ) (g : Good k) (h : Held journal checks k) where
  -- what undo and redo leave: the board alone is another
  unfoldable said : Answer → Called
  said x = called x.refusal false x.board journal checks

  -- the same moves are held with any standing count
  pub held_standing : (n : ℕ) → Held journal checks (with_moves k k.moves n)
  unfolding with_moves made slots_in
  held_standing n = record { slots = h.slots; journal_length_lem = h.journal_length_lem; stored = h.stored; checks_length_lem = h.checks_length_lem }

  -- ---- undo

  module _ (some : k.standing ≡ 0 → ⊥) where
    back_within : k.standing - 1 < made k
    back_within = omega (arith, g.within, some)

    latest_slot : slot_at journal k.standing ≡ slot_for (before_it k g (k.standing - 1) back_within) (its_move k g (k.standing - 1) back_within)
    unfolding before_it its_move
    latest_slot =
        ap (λ (i : ℕ). slot_at journal i) {x = k.standing} {y = k.standing - 1 + 1} (omega (arith, some))
        ∙ held_slot journal checks k h (k.standing - 1) back_within

    latest_state : state_in k ≡ perform (before_it k g (k.standing - 1) back_within) (its_move k g (k.standing - 1) back_within)
    unfolding state_in
    latest_state =
        ap (λ (i : ℕ). perform_all (opening k.givens) (take i k.moves)) {x = k.standing} {y = k.standing - 1 + 1} (omega (arith, some))
        ∙ it_after k g (k.standing - 1) back_within

    latest_back : can_take_back (state_in k) (slot_at journal k.standing) ≡ true
    latest_back = (λ i. can_take_back (latest_state i) (latest_slot i)) ∙ can_back k g (k.standing - 1) back_within

    state_back : is_on (state_in k).solved ≡ false
        → take_back (state_in k) (move_of (slot_at journal k.standing)) (slot_at journal k.standing).before (slot_at journal k.standing).struck
        ≡ state_in (taken k Undo)
    unfolding state_in taken with_moves before_it its_move slot_for
    state_back unsolved =
        (λ i. take_back (latest_state i) (move_of (latest_slot i)) (latest_slot i).before (latest_slot i).struck)
        ∙ ap (λ (m : Move). take_back (perform was its) m (before was its) (struck was its)) (move_kept was its)
        ∙ taken_back_lem was its (it_fit k g (k.standing - 1) back_within)
        (passes_unsolved was its (it_passes k g (k.standing - 1) back_within))
        (it_allowed k g (k.standing - 1) back_within)
        (ap (λ (s : State). is_on s.solved) (sym latest_state) ∙ unsolved)
      where
        was : State
        was = before_it k g (k.standing - 1) back_within

        its : Move
        its = its_move k g (k.standing - 1) back_within

    undone_board : is_on (state_in k).solved ≡ false → undone (board_in k) (slot_at journal k.standing) ≡ board_in (taken k Undo)
    unfolding undone board_in board_of moved state_of counts_of taken_back taken with_moves made
    undone_board unsolved =
        λ i.
        board_of (state_back unsolved i) k.solution
        (pick_false (eqb k.standing 0) (counts (made k) k.standing) (counts (made k) (k.standing - 1)) (ne_eqb k.standing 0 some) i)
        (length k.checks)

  undo_number : first (undo_tests (board_in k) journal) ≡ refused_by k Undo
  unfolding undo_tests undo_before lent_tests board_in board_of state_of
  undo_number =
      lent_passed k g (eqb (length journal) journal_bytes) (eq-eqb (length journal) journal_bytes h.journal_length_lem) _
      ∙ third_test (is_on (state_in k).solved) (eqb k.standing 0) (not (can_take_back (state_in k) (slot_at journal k.standing))) 12
      (λ a b. not_is_false _ (latest_back (eqb-false k.standing 0 b)))
      ∙ sym (refused_undo k)

  -- an undo that the book accepts
  pub undo_board : refused_by k Undo ≡ 0 → undo_of (board_in k) journal ≡ answer accepted (board_in (taken k Undo))
  unfolding undo_of board_in board_of
  undo_board p =
      was_done (first (undo_tests (board_in k) journal)) (refused_by k Undo) undo_number _ (λ n. answer (slot_refusal n k.standing) (board_in k)) p
      ∙ ap (answer accepted) (undone_board (undo_some k p) (undo_unsolved k p))

  undo_refused : eqb (refused_by k Undo) 0 ≡ false → undo_of (board_in k) journal ≡ answer (refusal (refused_by k Undo) 0 0) (board_in k)
  unfolding undo_of board_in board_of
  undo_refused t =
      was_refused (first (undo_tests (board_in k) journal)) (refused_by k Undo) undo_number _ (λ n. answer (slot_refusal n k.standing) (board_in k)) t
      ∙ ap (λ (r : Refusal). answer r (board_in k)) (rw (refused_undo k) (no_place (is_on (state_in k).solved) (eqb k.standing 0) 12 k.standing refl))

  undo_agrees : Agrees k journal checks Undo
  unfolding call_of verdict said taken
  undo_agrees =
      agrees_by k journal checks Undo journal checks h (λ p. ap said (undo_board p)) (λ p. held_standing (k.standing - 1)) (λ t. ap said (undo_refused t))

  -- ---- redo

  module _ (more : k.standing ≡ made k → ⊥) where
    next_within : k.standing < made k
    next_within = omega (arith, g.within, more)

    next_slot : slot_at journal (k.standing + 1) ≡ slot_for (before_it k g k.standing next_within) (its_move k g k.standing next_within)
    unfolding before_it its_move
    next_slot = held_slot journal checks k h k.standing next_within

    next_again : can_retake (state_in k) (slot_at journal (k.standing + 1)) ≡ true
    unfolding state_in before_it
    next_again = ap (can_retake (state_in k)) next_slot ∙ can_again k g k.standing next_within

    state_again : perform_again (state_in k) (move_of (slot_at journal (k.standing + 1))) (slot_at journal (k.standing + 1)).struck ≡ state_in (taken k Redo)
    unfolding state_in taken with_moves before_it its_move slot_for
    state_again =
        (λ i. perform_again was (move_of (next_slot i)) (next_slot i).struck)
        ∙ ap (λ (m : Move). perform_again was m (struck was its)) (move_kept was its)
        ∙ performed_again was its (it_fit k g k.standing next_within) (it_allowed k g k.standing next_within)
        ∙ sym (it_after k g k.standing next_within)
      where
        was : State
        was = before_it k g k.standing next_within

        its : Move
        its = its_move k g k.standing next_within

    redone_board : redone (board_in k) (slot_at journal (k.standing + 1)) ≡ board_in (taken k Redo)
    unfolding redone board_in board_of moved state_of counts_of retaken taken with_moves made
    redone_board =
        λ i.
        board_of (state_again i) k.solution
        (pick_false (leb (made k) k.standing) (counts (made k) k.standing) (counts (made k) (k.standing + 1)) (lt-leb (made k) k.standing next_within) i)
        (length k.checks)

  none_next : leb (made k) k.standing ≡ eqb k.standing (made k)
  none_next =
      same_test (leb (made k) k.standing) (eqb k.standing (made k))
      (λ t. eq-eqb k.standing (made k) (omega (arith, leb-true (made k) k.standing t, g.within)))
      (λ t. le-leb (made k) k.standing (omega (arith, eqb-true k.standing (made k) t)))

  redo_number : first (redo_tests (board_in k) journal) ≡ refused_by k Redo
  unfolding redo_tests redo_before lent_tests board_in board_of state_of
  redo_number =
      lent_passed k g (eqb (length journal) journal_bytes) (eq-eqb (length journal) journal_bytes h.journal_length_lem) _
      ∙ third_test (is_on (state_in k).solved) (leb (made k) k.standing) (not (can_retake (state_in k) (slot_at journal (k.standing + 1)))) 13
      (λ a b. not_is_false _ (next_again (eqb-false k.standing (made k) (sym none_next ∙ b))))
      ∙ ap (λ (t : Bool). first ((is_on (state_in k).solved ⇒ 4) ∷ (t ⇒ 13) ∷ [])) none_next
      ∙ sym (refused_redo k)

  redo_board : refused_by k Redo ≡ 0 → redo_of (board_in k) journal ≡ answer accepted (board_in (taken k Redo))
  unfolding redo_of board_in board_of
  redo_board p =
      was_done (first (redo_tests (board_in k) journal)) (refused_by k Redo) redo_number _ (λ n. answer (slot_refusal n (k.standing + 1)) (board_in k)) p
      ∙ ap (answer accepted) (redone_board (redo_some k p))

  redo_refused : eqb (refused_by k Redo) 0 ≡ false → redo_of (board_in k) journal ≡ answer (refusal (refused_by k Redo) 0 0) (board_in k)
  unfolding redo_of board_in board_of
  redo_refused t =
      was_refused (first (redo_tests (board_in k) journal)) (refused_by k Redo) redo_number _ (λ n. answer (slot_refusal n (k.standing + 1)) (board_in k)) t
      ∙ ap (λ (r : Refusal). answer r (board_in k)) (rw (refused_redo k) (no_place (is_on (state_in k).solved) (eqb k.standing (made k)) 13 (k.standing + 1) refl))

  redo_agrees : Agrees k journal checks Redo
  unfolding call_of verdict said taken
  redo_agrees =
      agrees_by k journal checks Redo journal checks h (λ p. ap said (redo_board p)) (λ p. held_standing (k.standing + 1)) (λ t. ap said (redo_refused t))

  -- ---- check

  module _ (row column : ℕ) where
    check_number : first (check_tests (board_in k) checks row column) ≡ refused_by k (Check row column)
    unfolding check_tests board_in board_of state_of
    check_number =
        lent_passed k g (eqb (length checks) check_memory) (eq-eqb (length checks) check_memory h.checks_length_lem) _
        ∙ sym (refused_check k row column)

    checked_board : with_check (board_in k) ≡ board_in (taken k (Check row column))
    unfolding with_check board_in board_of state_of counts_of taken state_in made
    checked_board =
        ap (λ (n : ℕ). board_of (state_in k) k.solution (counts (made k) k.standing) n)
        (sym (length-append k.checks (check_in k row column ∷ [])))

    -- the check is the book's
    same_check : check_on (board_in k) row column ≡ check_in k row column
    unfolding check_on check_in board_in board_of state_of
    same_check = refl

    check_agrees : Agrees k journal checks (Check row column)
    unfolding call_of verdict check_of board_in board_of
    check_agrees =
        agrees_by k journal checks (Check row column) journal (over checks (check_bytes * length k.checks) (stored_bytes (check_in k row column))) h
        (λ p. ap left (was_done n (refused_by k (Check row column)) check_number _ refused p
        ∙ (λ i. checked accepted (same_check i).right (checked_board i) (over checks (check_bytes * length k.checks) (stored_bytes (same_check i))))))
        (λ p. held_check journal checks k h row column (omega (arith, check_room k row column p, g.few_checks)))
        (λ t. ap left (was_refused n (refused_by k (Check row column)) check_number _ refused t))
      where
        n : ℕ
        n = first (check_tests (board_in k) checks row column)

        refused : ℕ → CheckPlayed
        refused i = checked (refusal i 0 0) false (board_in k) checks

        left : CheckPlayed → Called
        left x = called x.answer.refusal x.answer.right x.answer.board journal x.checks

  -- ---- each call

  pub agrees : (c : Call) → Agrees k journal checks c
  agrees (Make a) = make_agrees k journal checks g h a
  agrees Undo = undo_agrees
  agrees Redo = redo_agrees
  agrees (Check row column) = check_agrees row column
