-- What a move does and that undo gives it back, proved: a session that calls reach holds a
-- book, and the book's state is that of its standing moves, so undo and redo move between two of its states.
-- Assumes nothing.
use Prim.Native.Nat.{ℕ, ◌+◌, ◌-◌}
use mathlib.Core.Path.{◌≡◌, refl, sym, ap, subst, ◌∙◌}
use mathlib.Core.Bool.{true, false}
use mathlib.Core.List.{List, [], ◌∷◌, ◌++◌, map}
use native.Mathlib.Omega.{arith}
use lib.Dec.{eqb}
use lib.ListN.{length, take, get_or}
use lib.Seq.{take_at, length-take-le}
use borrow.Author.Tests.{ne_eqb}
use Rattle.sudoku.specs.Tests.{both}
use Rattle.sudoku.specs.Grid.{is_cell, at}
use Rattle.sudoku.proofs.Walks.{by_test, refused, no_if, first_none, passed}
use Rattle.note.specs.Note.{contains}
use Rattle.puzzle.specs.Refusals.{refusal}
use Rattle.puzzle.specs.Givens.{is_on}
use Rattle.journal.specs.declared.Move.{Move}
use Rattle.journal.specs.State.{State, opening, digit_at, note_at, perform}
use Rattle.journal.proofs.Moves.{Fit, given_kept}
use Rattle.journal.proofs.Pointwise.{place_digit, place_mark, erase_digit, erase_notes}
use Rattle.board.specs.declared.Board.{Board}
use Rattle.board.specs.Board.{board_of}
use Rattle.play.specs.declared.Play.{Play}
use Rattle.play.specs.declared.Play.TheVariants as play
use Rattle.calls.specs.declared.Call.{Call}
use Rattle.calls.specs.declared.Call.TheVariants.{Make, Undo, Redo}
use Rattle.calls.specs.Session.{Session, Said, called, call_of, after, answers}
use Rattle.demands.specs.Book.{Book, made, perform_all, state_in, refused_by, added, taken, with_moves, verdict, step, says, keep, says_all}
use Rattle.demands.specs.Demand3.{board_in}
use Rattle.demands.specs.Undo.{digit_after, marked, mark_after, yes, no, Does, AsItWas, TakenBack, Final, Cancel, UndoTheorem}
use Rattle.demands.proofs.Plays.{Passes, length_one_more}
use Rattle.demands.proofs.Refusals.{place_passes, erase_passes, pencil_passes, passes_unsolved, refused_undo, refused_redo, step_taken, step_refused}
use Rattle.demands.proofs.Turned.{pencil_digits, pencil_mark}
use Rattle.demands.proofs.Reached.{on_the_way}
use Rattle.demands.proofs.Good.{Good, good_taken, good_fit, last_solved, make_passes, undo_unsolved, undo_some}
use Rattle.demands.proofs.Held.{Held}
use Rattle.demands.proofs.Steps.{session_of, made_state}
use Rattle.demands.proofs.Lists.{AgreesAll, agrees_all, of_book}

-- ---- what is said

-- no call but a check has a verdict
pub make_silent : (k : Book) (a : Play) → verdict k (Make a) ≡ false
unfolding verdict
make_silent k a = refl

undo_silent : (k : Book) → verdict k Undo ≡ false
unfolding verdict
undo_silent k = refl

redo_silent : (k : Book) → verdict k Redo ≡ false
unfolding verdict
redo_silent k = refl

module _ (k : Book) (c : Call) where
  pub says_yes : verdict k c ≡ false → refused_by k c ≡ 0 → says k c ≡ yes
  unfolding says yes both
  says_yes v p = λ i. record { refusal = refusal (p i) 0 0; right = both (eqb (p i) 0) (v i) }

  says_no : (n : ℕ) → eqb n 0 ≡ false → refused_by k c ≡ n → says k c ≡ no n
  unfolding says no both
  says_no n t p =
      (λ i. record { refusal = refusal (p i) 0 0; right = both (eqb (p i) 0) (verdict k c) })
      ∙ (λ i. record { refusal = refusal n 0 0; right = both (t i) (verdict k c) })

-- ---- one move

module _ (k : Book) (g : Good k) where
  -- the whole game is unsolved where its position is, and so is every position on the way
  unsolved_at : is_on (state_in k).solved ≡ false → (i : ℕ) → is_on (perform_all (opening k.givens) (take i k.moves)).solved ≡ false
  unsolved_at u =
      on_the_way (opening k.givens) k.moves g.plays
      (by_test (is_on (perform_all (opening k.givens) k.moves).solved) (λ t. absurd (last_solved k g u t)) (λ t. t))

  -- undo and redo of a standing count that is another
  undo_passes : is_on (state_in k).solved ≡ false → (k.standing ≡ 0 → ⊥) → refused_by k Undo ≡ 0
  undo_passes u n = refused_undo k ∙ no_if _ 4 _ u ∙ no_if _ 12 _ (ne_eqb k.standing 0 n) ∙ first_none

  redo_passes : is_on (state_in k).solved ≡ false → (k.standing ≡ made k → ⊥) → refused_by k Redo ≡ 0
  redo_passes u n = refused_redo k ∙ no_if _ 4 _ u ∙ no_if _ 13 _ (ne_eqb k.standing (made k) n) ∙ first_none

-- ---- two calls that cancel each other

-- the same book with another standing count and then with its own again
same_book : (k : Book) (n : ℕ) → n ≡ k.standing → with_moves k k.moves n ≡ k
unfolding with_moves
same_book k n e = ap (λ (m : ℕ). record { givens = k.givens; solution = k.solution; moves = k.moves; standing = m; checks = k.checks }) e

module _ (k : Book) (journal checks : List ℕ) (g : Good k) (h : Held journal checks k) where
  -- an answer says what the book's number is
  pub said_yes : (c : Call) → answers (session_of k journal checks) (c ∷ []) ≡ yes ∷ [] → refused_by k c ≡ 0
  unfolding says_all says yes
  said_yes c e = ap (λ (l : List Said). get_or (map (λ (a : Said). a.refusal.number) l) 0 0) (sym (agrees_all k journal checks (c ∷ []) g h).said ∙ e)

  cancels : (one other : Call) → verdict k one ≡ false → refused_by k one ≡ 0 → verdict (taken k one) other ≡ false → refused_by (taken k one) other ≡ 0
      → taken (taken k one) other ≡ k → ((after (session_of k journal checks) (one ∷ other ∷ [])).journal ≡ journal)
      → ((after (session_of k journal checks) (one ∷ other ∷ [])).checks ≡ checks) → Cancel (session_of k journal checks) one other
  unfolding says_all keep
  cancels one other v p w q same j c =
      record {
        answered =
            all.said
            ∙ ap (λ (b : Book). says k one ∷ says b other ∷ []) (step_taken k one p)
            ∙ (λ i. says_yes k one v p i ∷ says_yes (taken k one) other w q i ∷ []);
        stays = λ i. record { board = board i; journal = j i; checks = c i };
      }
    where
      all : AgreesAll k journal checks (one ∷ other ∷ [])
      all = agrees_all k journal checks (one ∷ other ∷ []) g h

      board : (after (session_of k journal checks) (one ∷ other ∷ [])).board ≡ board_in k
      board =
          ap (λ (x : Session). x.board) all.left
          ∙ ap (λ (b : Book). board_in (step b other)) (step_taken k one p)
          ∙ ap board_in (step_taken (taken k one) other q ∙ same)

  undo_redo : answers (session_of k journal checks) (Undo ∷ []) ≡ yes ∷ [] → Cancel (session_of k journal checks) Undo Redo
  unfolding after call_of called taken with_moves made state_in
  undo_redo e =
      cancels Undo Redo (undo_silent k) p (redo_silent (taken k Undo))
      (redo_passes (taken k Undo) (good_taken k g Undo p) (unsolved_at k g (undo_unsolved k p) (k.standing - 1)) (λ r. omega (arith, r, g.within, undo_some k p)))
      (same_book k (k.standing - 1 + 1) (omega (arith, undo_some k p))) refl refl
    where
      p : refused_by k Undo ≡ 0
      p = said_yes Undo e

  redo_undo : answers (session_of k journal checks) (Redo ∷ []) ≡ yes ∷ [] → Cancel (session_of k journal checks) Redo Undo
  unfolding after call_of called taken with_moves made state_in
  redo_undo e =
      cancels Redo Undo (redo_silent k) p (undo_silent (taken k Redo))
      (undo_passes (taken k Redo) (good_taken k g Redo p) (unsolved_at k g unsolved (k.standing + 1)) (λ r. omega (arith, r)))
      (same_book k (k.standing + 1 - 1) (omega arith)) refl refl
    where
      p : refused_by k Redo ≡ 0
      p = said_yes Redo e

      unsolved : is_on (state_in k).solved ≡ false
      unsolved = (passed _ 3 _ (sym (refused_redo k) ∙ p)).0

  -- ---- a move, its undo and its redo

  module _ (a : Play) (e : answers (session_of k journal checks) (Make a ∷ []) ≡ yes ∷ []) where
    -- the move that the call adds
    abbrev m : Move
    m = added (state_in k) a

    p : refused_by k (Make a) ≡ 0
    p = said_yes (Make a) e

    unfoldable made_book : Book
    made_book = taken k (Make a)

    made_good : Good made_book
    unfolding made_book
    made_good = good_taken k g (Make a) p

    -- the board after the move
    board_after_lem : (after (session_of k journal checks) (Make a ∷ [])).board ≡ board_in made_book
    unfolding keep made_book
    board_after_lem = ap (λ (x : Session). x.board) (agrees_all k journal checks (Make a ∷ []) g h).left ∙ ap board_in (step_taken k (Make a) p)

    counted : length (take k.standing k.moves ++ (m ∷ [])) ≡ k.standing + 1
    unfolding made
    counted = length_one_more k.moves k.standing m g.within

    fit : Fit (state_in k)
    fit = good_fit k g

    -- the state after the move, at each cell and for each mark
    state_after_lem : state_in made_book ≡ perform (state_in k) m
    unfolding made_book
    state_after_lem = made_state k g a

    -- its undo is accepted where it did not solve the board, and gives the state before it
    unfoldable back_book : Book
    back_book = taken made_book Undo

    state_back : state_in back_book ≡ state_in k
    unfolding back_book made_book taken with_moves state_in made
    state_back =
        ap (λ (l : List Move). perform_all (opening k.givens) l)
        (ap (λ (n : ℕ). take n (take k.standing k.moves ++ (m ∷ []))) {x = k.standing + 1 - 1} {y = k.standing} (omega arith)
        ∙ take_at (take k.standing k.moves) (m ∷ []) k.standing (length-take-le k.standing k.moves g.within))

    module _ (unsolved : is_on (state_in made_book).solved ≡ false) where
      undo_p : refused_by made_book Undo ≡ 0
      unfolding made_book taken with_moves
      undo_p = undo_passes made_book made_good unsolved (λ r. omega (arith, r))

      redo_p : refused_by back_book Redo ≡ 0
      unfolding back_book made_book taken with_moves made
      redo_p =
          redo_passes back_book (good_taken made_book made_good Undo undo_p)
          (ap (λ (x : State). is_on x.solved) state_back ∙ passes_unsolved (state_in k) m (make_passes k a p)) (λ r. omega (arith, r, counted))

      again_book : taken back_book Redo ≡ made_book
      unfolding back_book made_book taken with_moves
      again_book = same_book (taken k (Make a)) (k.standing + 1 - 1 + 1) (omega arith)

      all : AgreesAll k journal checks (Make a ∷ Undo ∷ Redo ∷ [])
      all = agrees_all k journal checks (Make a ∷ Undo ∷ Redo ∷ []) g h

      book_then : keep k (Make a ∷ Undo ∷ []) ≡ back_book
      unfolding keep back_book made_book
      book_then = ap (λ (b : Book). step b Undo) (step_taken k (Make a) p) ∙ step_taken (taken k (Make a)) Undo undo_p

      as_it_was : AsItWas (board_in k) (board_in back_book)
      unfolding board_in board_of back_book made_book taken with_moves made
      as_it_was =
          record {
            digits = ap (λ (x : State). x.digits) state_back;
            notes = ap (λ (x : State). x.notes) state_back;
            status = ap (λ (x : State). x.solved) state_back;
            given = ap (λ (x : State). x.given) state_back;
            solution = refl;
            checks = refl;
            standing = omega arith;
            made = counted;
          }

      board_then : (after (session_of k journal checks) (Make a ∷ Undo ∷ [])).board ≡ board_in back_book
      board_then = ap (λ (x : Session). x.board) (agrees_all k journal checks (Make a ∷ Undo ∷ []) g h).left ∙ ap board_in book_then

      board_again : (after (session_of k journal checks) (Make a ∷ Undo ∷ Redo ∷ [])).board ≡ (after (session_of k journal checks) (Make a ∷ [])).board
      unfolding keep back_book
      board_again =
          ap (λ (x : Session). x.board) all.left
          ∙ ap (λ (b : Book). board_in (step b Redo)) book_then
          ∙ ap board_in (step_taken back_book Redo redo_p ∙ again_book)
          ∙ sym board_after_lem

      taken_back : TakenBack (session_of k journal checks) a
      unfolding says_all after call_of called made_book back_book
      taken_back =
          record {
            answered =
                all.said
                ∙ ap (λ (b : Book). says k (Make a) ∷ says b Undo ∷ says (step b Undo) Redo ∷ []) (step_taken k (Make a) p)
                ∙ ap (λ (b : Book). says k (Make a) ∷ says made_book Undo ∷ says b Redo ∷ []) (step_taken made_book Undo undo_p)
                ∙ (λ i.
                says_yes k (Make a) (make_silent k a) p i
                ∷ says_yes made_book Undo (undo_silent made_book) undo_p i
                ∷ says_yes back_book Redo (redo_silent back_book) redo_p i
                ∷ []);
            back = subst (λ (b : Board). AsItWas (board_in k) b) (sym board_then) as_it_was;
            again =
                λ i.
                record {
                  board = board_again i;
                  journal = (after (session_of k journal checks) (Make a ∷ [])).journal;
                  checks = (after (session_of k journal checks) (Make a ∷ [])).checks;
                };
          }

    -- a move that solved the board
    module _ (solved : is_on (state_in made_book).solved ≡ true) where
      undo_4 : refused_by made_book Undo ≡ 4
      undo_4 = refused_undo made_book ∙ refused _ 4 _ solved

      stays_book : step made_book Undo ≡ made_book
      stays_book = step_refused made_book Undo (ap (λ (n : ℕ). eqb n 0) undo_4)

      final : Final (session_of k journal checks) a
      unfolding says_all after call_of called made_book keep
      final =
          record {
            answered =
                (agrees_all k journal checks (Make a ∷ Undo ∷ []) g h).said
                ∙ ap (λ (b : Book). says k (Make a) ∷ says b Undo ∷ []) (step_taken k (Make a) p)
                ∙ (λ i. says_yes k (Make a) (make_silent k a) p i ∷ says_no made_book Undo 4 refl undo_4 i ∷ []);
            stays =
                λ i.
                record {
                  board = board_stays i;
                  journal = (after (session_of k journal checks) (Make a ∷ [])).journal;
                  checks = (after (session_of k journal checks) (Make a ∷ [])).checks;
                };
          }
        where
          board_stays : (after (session_of k journal checks) (Make a ∷ Undo ∷ [])).board ≡ (after (session_of k journal checks) (Make a ∷ [])).board
          board_stays =
              ap (λ (x : Session). x.board) (agrees_all k journal checks (Make a ∷ Undo ∷ []) g h).left
              ∙ ap (λ (b : Book). board_in (step b Undo)) (step_taken k (Make a) p)
              ∙ ap board_in stays_book
              ∙ sym board_after_lem

    -- ---- what the move does

    does_digit : (n : Play) → Passes (state_in k) (added (state_in k) n) → (cell : ℕ) → is_cell cell ≡ true
        → at (perform (state_in k) (added (state_in k) n)).digits cell ≡ digit_after (board_in k) n cell
    unfolding digit_after board_in board_of digit_at added
    does_digit (play.Place row column digit) q cell is =
        place_digit (state_in k) row column (place_passes (state_in k) row column digit q).grid fit.digits_81 fit.notes_81 digit cell is
    does_digit (play.Erase row column) q cell is = erase_digit (state_in k) row column (erase_passes (state_in k) row column q).grid fit.digits_81 fit.notes_81 cell is
    does_digit (play.Pencil row column digit) q cell is = ap (λ (l : List ℕ). at l cell) (pencil_digits (state_in k) row column digit)

    does_mark : (n : Play) → Passes (state_in k) (added (state_in k) n) → (cell d : ℕ) → is_cell cell ≡ true
        → contains (at (perform (state_in k) (added (state_in k) n)).notes cell) d ≡ mark_after (board_in k) n cell d
    unfolding mark_after marked board_in board_of note_at added
    does_mark (play.Place row column digit) q cell d is =
        place_mark (state_in k) row column (place_passes (state_in k) row column digit q).grid fit.digits_81 fit.notes_81 digit cell d is
    does_mark (play.Erase row column) q cell d is = ap (λ (l : List ℕ). contains (at l cell) d) (erase_notes (state_in k) row column)
    does_mark (play.Pencil row column digit) q cell d is =
        let x = pencil_passes (state_in k) row column digit q in
        pencil_mark (state_in k) row column digit x.grid fit.digits_81 fit.notes_81 x.range cell d is

    does_book : Does (board_in k) a (board_in made_book)
    unfolding board_in board_of made_book taken with_moves made marked
    does_book =
        record {
          digits = λ cell q. ap (λ (x : State). at x.digits cell) state_after_lem ∙ does_digit a (make_passes k a p) cell q;
          marks = λ cell d q. ap (λ (x : State). contains (at x.notes cell) d) state_after_lem ∙ does_mark a (make_passes k a p) cell d q;
          given = ap (λ (x : State). x.given) state_after_lem ∙ given_kept (state_in k) m;
          solution = refl;
          checks = refl;
          standing = refl;
          made = counted;
        }

    does : Does (board_in k) a (after (session_of k journal checks) (Make a ∷ [])).board
    does = subst (λ (b : Board). Does (board_in k) a b) (sym board_after_lem) does_book

-- ---- every session that calls reach

-- the status of the board after a move, said as a test of the book's state
module _ (k : Book) (journal checks : List ℕ) (g : Good k) (h : Held journal checks k) (a : Play) (e : answers (session_of k journal checks) (Make a ∷ []) ≡ yes ∷ [])
  where
    status_after : (n : ℕ) → (after (session_of k journal checks) (Make a ∷ [])).board.solved ≡ n → is_on (state_in (made_book k journal checks g h a e)).solved ≡ is_on n
    unfolding board_in board_of
    status_after n z = ap is_on (sym (ap (λ (b : Board). b.solved) (board_after_lem k journal checks g h a e)) ∙ z)

pub undo_theorem : UndoTheorem
unfolding board_in
undo_theorem =
    record {
      does =
          λ s a r.
          of_book s r (λ (x : Session) (k : Book). answers x (Make a ∷ []) ≡ yes ∷ [] → Does x.board a (after x (Make a ∷ [])).board)
          (λ k journal checks g h e. does k journal checks g h a e);
      back =
          λ s a r.
          of_book s r (λ (x : Session) (k : Book). answers x (Make a ∷ []) ≡ yes ∷ [] → (after x (Make a ∷ [])).board.solved ≡ 0 → TakenBack x a)
          (λ k journal checks g h e z. taken_back k journal checks g h a e (status_after k journal checks g h a e 0 z));
      final =
          λ s a r.
          of_book s r (λ (x : Session) (k : Book). answers x (Make a ∷ []) ≡ yes ∷ [] → (after x (Make a ∷ [])).board.solved ≡ 1 → Final x a)
          (λ k journal checks g h e z. final k journal checks g h a e (status_after k journal checks g h a e 1 z));
      undo_redo =
          λ s r. of_book s r (λ (x : Session) (k : Book). answers x (Undo ∷ []) ≡ yes ∷ [] → Cancel x Undo Redo) (λ k journal checks g h e. undo_redo k journal checks g h e);
      redo_undo =
          λ s r. of_book s r (λ (x : Session) (k : Book). answers x (Redo ∷ []) ≡ yes ∷ [] → Cancel x Redo Undo) (λ k journal checks g h e. redo_undo k journal checks g h e);
    }
