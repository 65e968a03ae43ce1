-- The board that holds what a book holds passes number 2's test; and what it means that lent memory holds a book's
-- moves and checks: each slot is read as it was written, and one move or one check more is held after it was laid over.
-- Assumes nothing.
use Prim.Native.Nat.{ℕ, ◌+◌, ◌*◌, ◌≤◌, ◌<◌}
use mathlib.Core.Path.{◌≡◌, refl, sym, ap, ◌∙◌}
use mathlib.Core.Bool.{Bool, true, not}
use mathlib.Core.List.{List, [], ◌∷◌, ◌++◌, append_assoc}
use native.Mathlib.Omega.{arith}
use lib.ListN.{length, take, drop, length-append, length-replicate}
use lib.Seq.{take_at, take-take, length-take-le}
use lib.Dec.{eqb}
use borrow.Author.Tests.{le-leb, ne_eqb}
use Rattle.sudoku.specs.Tests.{Test, first, both}
use Rattle.puzzle.specs.Givens.{is_given}
use Rattle.puzzle.specs.Puzzle.{is_full, is_consistent}
use Rattle.sudoku.proofs.Walks.{bit_le, both_true, both_false_left, both_false_right, by_test, every_of, no_if, not_is_false}
use Rattle.sudoku.specs.Grid.{in_range, is_cell, at}
use Rattle.sudoku.proofs.Grid.{is_cell_lem}
use Rattle.journal.specs.declared.Move.{Move}
use Rattle.journal.specs.declared.Counts.{Counts}
use Rattle.journal.specs.Limits.{max_moves, max_checks, slot_bytes, check_bytes, journal_bytes, check_memory}
use Rattle.journal.specs.Counts.{counts}
use Rattle.journal.specs.Bytes.{over}
use Rattle.journal.specs.State.{State, opening, digit_at, note_at}
use Rattle.journal.specs.Slots.{slot_for, bytes_of, slot_at}
use Rattle.journal.specs.StoredChecks.{Stored, stored_bytes, stored_all}
use Rattle.journal.proofs.Moves.{Fit}
use Rattle.journal.proofs.Memory.{length_over, take_over_end, length_stored}
use Rattle.board.specs.Board.{board_of, is_board, lent_tests, may_stand, digit_value, note_value, solution_value}
use Rattle.board.specs.Open.{no_moves, no_checks}
use Rattle.calls.specs.declared.Call.TheVariants.{Make, Check}
use Rattle.play.specs.declared.Play.{Play}
use Rattle.demands.specs.Book.{Book, made, perform_all, state_in, slots_from, slots_in, added, taken, with_moves, check_in}
use Rattle.demands.specs.Demand3.{board_in}
use Rattle.demands.proofs.Plays.{move_no, slots_append, slots_length, slots_in_two, length_one_more}
use Rattle.demands.proofs.Good.{Good, good_fit}
use Rattle.demands.proofs.Slots.{journal_slot}

-- ---- the board of a book

module _ (s : State) (solution : List ℕ) (c : Counts) (n : ℕ) (f : Fit s) (digits : (cell : ℕ) → is_cell cell ≡ true → in_range (at solution cell) ≡ true) where
  pub fit_board : c.made ≤ max_moves → c.standing ≤ c.made → n ≤ max_checks → is_board (board_of s solution c n) ≡ true
  unfolding is_board board_of digit_value may_stand note_value solution_value digit_at note_at is_given
  fit_board a b d =
      both_true _ _ (le-leb c.made max_moves a)
      (both_true _ _ (le-leb c.standing c.made b)
      (both_true _ _ (le-leb n max_checks d)
      (both_true _ _ (le-leb s.solved 1 (omega (arith, f.status, bit_le (both (is_full s.digits) (is_consistent s.digits)))))
      (both_true _ _
      (every_of (digit_value s.digits s.given) 81 1
      (λ cell l u.
      let is : is_cell cell ≡ true = is_cell_lem cell l (omega arith) in
      both_true _ _ (le-leb (at s.digits cell) 9 (f.digits cell is))
      (both_true _ _ (le-leb (at s.given cell) 1 (f.flags cell is))
      (by_test (eqb (at s.given cell) 0) (λ t. ap not (both_false_left _ _ (ap not t)))
      (λ t. ap not (both_false_right _ _ (ne_eqb (at s.digits cell) 0 (λ e. omega (arith, e, f.givens cell is (ap not t))))))))))
      (both_true _ _ (every_of (note_value s.notes) 81 1 (λ cell l u. f.notes cell (is_cell_lem cell l (omega arith))))
      (every_of (solution_value solution) 81 1 (λ cell l u. digits cell (is_cell_lem cell l (omega arith)))))))))

pub good_board : (k : Book) → Good k → is_board (board_in k) ≡ true
unfolding board_in
good_board k g =
    fit_board (state_in k) k.solution (counts (made k) k.standing) (length k.checks) (good_fit k g) g.opens.digits g.few g.within g.few_checks

-- so 1 and 2 do not apply where what is lent has its length
pub lent_passed : (k : Book) → Good k → (fits : Bool) → fits ≡ true → (ts : List Test) → first (lent_tests fits (board_in k) ts) ≡ first ts
unfolding lent_tests
lent_passed k g fits e ts =
    no_if (not fits) 1 _ (not_is_false fits e) ∙ no_if (not (is_board (board_in k))) 2 ts (not_is_false (is_board (board_in k)) (good_board k g))

-- ---- slots of moves

module _ (s : State) (ms : List Move) (n : ℕ) where
  -- the first n slots are those of the first n moves
  pub slots_front : n ≤ length ms → take (slot_bytes * n) (slots_from s ms) ≡ slots_from s (take n ms)
  slots_front h =
      ap (λ (l : List ℕ). take (slot_bytes * n) l) (slots_in_two s ms n)
      ∙ take_at (slots_from s (take n ms)) (slots_from (perform_all s (take n ms)) (drop n ms)) (slot_bytes * n)
      (slots_length s (take n ms) ∙ ap (λ (k : ℕ). slot_bytes * k) (length-take-le n ms h))

-- ---- stored checks

stored_append : (cs ds : List Stored) → stored_all (cs ++ ds) ≡ stored_all cs ++ stored_all ds
unfolding stored_all
stored_append [] ds = refl
stored_append (c ∷ cs) ds =
    ap (λ (l : List ℕ). stored_bytes c ++ l) (stored_append cs ds) ∙ sym (append_assoc (stored_bytes c) (stored_all cs) (stored_all ds))

-- ---- lent memory that holds a book's moves and checks

pub record Held (journal checks : List ℕ) (k : Book) : Type 0 where
  pub slots : take (slot_bytes * made k) journal ≡ slots_in k
  pub journal_length_lem : length journal ≡ journal_bytes
  pub stored : take (check_bytes * length k.checks) checks ≡ stored_all k.checks
  pub checks_length_lem : length checks ≡ check_memory

module _ (journal checks : List ℕ) (k : Book) (h : Held journal checks k) where
  -- slot n + 1 is that of move n + 1, with what it displaced in the state before it
  pub held_slot : (n : ℕ) → n < made k → slot_at journal (n + 1) ≡ slot_for (perform_all (opening k.givens) (take n k.moves)) (move_no k.moves n)
  unfolding slots_in made
  held_slot n u = journal_slot journal (opening k.givens) k.moves h.slots n u

  -- the slots of the standing moves, and one slot more behind them
  pub held_front : k.standing ≤ made k → take (slot_bytes * k.standing) journal ≡ slots_from (opening k.givens) (take k.standing k.moves)
  unfolding slots_in made
  held_front u =
      sym (take-take (slot_bytes * k.standing) (slot_bytes * made k) journal (omega arith))
      ∙ ap (λ (l : List ℕ). take (slot_bytes * k.standing) l) h.slots
      ∙ slots_front (opening k.givens) k.moves k.standing u

  -- one move more: its slot laid over the journal behind the standing moves
  pub held_make : (a : Play) → k.standing ≤ made k → k.standing < max_moves
      → Held (over journal (slot_bytes * k.standing) (bytes_of (slot_for (state_in k) (added (state_in k) a)))) checks (taken k (Make a))
  unfolding taken with_moves made slots_in state_in slots_from bytes_of
  held_make a u room =
      record {
        slots =
            ap (λ (n : ℕ). take n (over journal (slot_bytes * k.standing) (bytes_of (slot_for (state_in k) m)))) counted
            ∙ take_over_end journal (slot_bytes * k.standing) (bytes_of (slot_for (state_in k) m)) fits
            ∙ ap (λ (l : List ℕ). l ++ bytes_of (slot_for (state_in k) m)) (held_front u)
            ∙ sym (slots_append (opening k.givens) (take k.standing k.moves) (m ∷ []));
        journal_length_lem = length_over journal (slot_bytes * k.standing) (bytes_of (slot_for (state_in k) m)) fits ∙ h.journal_length_lem;
        stored = h.stored;
        checks_length_lem = h.checks_length_lem;
      }
    where
      m : Move
      m = added (state_in k) a

      fits : slot_bytes * k.standing + slot_bytes ≤ length journal
      fits = omega (arith, h.journal_length_lem)

      counted : slot_bytes * length (take k.standing k.moves ++ (m ∷ [])) ≡ slot_bytes * k.standing + slot_bytes
      counted = omega (arith, length_one_more k.moves k.standing m u)

  -- one check more: its six bytes laid over the check memory behind the others
  pub held_check : (row column : ℕ) → length k.checks < max_checks
      → Held journal (over checks (check_bytes * length k.checks) (stored_bytes (check_in k row column))) (taken k (Check row column))
  unfolding taken made slots_in stored_all stored_bytes
  held_check row column room =
      record {
        slots = h.slots;
        journal_length_lem = h.journal_length_lem;
        stored =
            ap (λ (n : ℕ). take n (over checks (check_bytes * length k.checks) (stored_bytes (check_in k row column)))) counted
            ∙ take_over_end checks (check_bytes * length k.checks) (stored_bytes (check_in k row column)) fits
            ∙ ap (λ (l : List ℕ). l ++ stored_bytes (check_in k row column)) h.stored
            ∙ sym (stored_append k.checks (check_in k row column ∷ []));
        checks_length_lem = length_over checks (check_bytes * length k.checks) (stored_bytes (check_in k row column)) fits ∙ h.checks_length_lem;
      }
    where
      fits : check_bytes * length k.checks + check_bytes ≤ length checks
      fits = omega (arith, h.checks_length_lem)

      counted : check_bytes * length (k.checks ++ (check_in k row column ∷ [])) ≡ check_bytes * length k.checks + check_bytes
      counted = omega (arith, length-append k.checks (check_in k row column ∷ []))

-- ---- memory of zeros with a book's moves and checks laid over it, as reopening leaves it

-- bytes laid over the start of memory are what it then starts with
pub starts_with : (memory bytes : List ℕ) → length bytes ≤ length memory → take (length bytes) (over memory 0 bytes) ≡ bytes
starts_with memory bytes h =
    ap (λ (n : ℕ). take n (over memory 0 bytes)) {x = length bytes} {y = 0 + length bytes} (omega arith) ∙ take_over_end memory 0 bytes (omega arith)

module _ (k : Book) (g : Good k) where
  slots_fit : 0 + length (slots_in k) ≤ length no_moves
  unfolding no_moves slots_in made
  slots_fit = omega (arith, g.few, slots_length (opening k.givens) k.moves, length-replicate {A = ℕ} journal_bytes 0)

  checks_fit : 0 + length (stored_all k.checks) ≤ length no_checks
  unfolding no_checks
  checks_fit = omega (arith, g.few_checks, length_stored k.checks, length-replicate {A = ℕ} check_memory 0)

  pub laid_slots : take (slot_bytes * made k) (over no_moves 0 (slots_in k)) ≡ slots_in k
  unfolding slots_in made
  laid_slots =
      ap (λ (n : ℕ). take n (over no_moves 0 (slots_in k))) (sym (slots_length (opening k.givens) k.moves))
      ∙ starts_with no_moves (slots_in k) (omega (arith, slots_fit))

  pub laid_journal : length (over no_moves 0 (slots_in k)) ≡ journal_bytes
  unfolding no_moves
  laid_journal = length_over no_moves 0 (slots_in k) slots_fit ∙ length-replicate {A = ℕ} journal_bytes 0

  pub laid_held : Held (over no_moves 0 (slots_in k)) (over no_checks 0 (stored_all k.checks)) k
  unfolding no_checks
  laid_held =
      record {
        slots = laid_slots;
        journal_length_lem = laid_journal;
        stored =
            ap (λ (n : ℕ). take n (over no_checks 0 (stored_all k.checks))) (sym (length_stored k.checks))
            ∙ starts_with no_checks (stored_all k.checks) (omega (arith, checks_fit));
        checks_length_lem = length_over no_checks 0 (stored_all k.checks) checks_fit ∙ length-replicate {A = ℕ} check_memory 0;
      }
