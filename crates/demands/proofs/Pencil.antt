-- The pencil's theorem, proved: the numbers of every call, rows that compute, and two presses, of which the second takes
-- the first back.
-- Assumes nothing.
use Prim.Native.Nat.{ℕ, ◌+◌, ◌*◌, ◌≤◌, ◌<◌}
use mathlib.Core.Path.{◌≡◌, refl, sym, ap, ◌∙◌}
use mathlib.Core.Bool.{false}
use mathlib.Core.List.{List, [], ◌∷◌, ◌++◌}
use native.Mathlib.Omega.{arith}
use lib.Dec.{eqb}
use lib.ListN.{length, take}
use borrow.Author.Tests.{ne_eqb, eqb-true}
use Rattle.puzzle.specs.Givens.{is_on}
use Rattle.sudoku.specs.Tests.{◌⇒◌, first, pick}
use Rattle.sudoku.proofs.Walks.{by_test, pick_true, pick_false}
use Rattle.puzzle.specs.Refusals.{refusal, accepted}
use Rattle.journal.specs.declared.Move.{Move}
use Rattle.journal.specs.Limits.{max_moves, slot_bytes, journal_bytes}
use Rattle.journal.specs.Bytes.{over}
use Rattle.journal.specs.Slots.{slot_for, bytes_of}
use Rattle.journal.specs.Counts.{counts, recorded}
use Rattle.journal.specs.State.{State, perform}
use Rattle.journal.proofs.Memory.{length_over, over_over, bytes_length}
use Rattle.board.specs.declared.Board.{Board}
use Rattle.board.specs.Board.{state_of, counts_of, board_of, moved, lent_tests}
use Rattle.play.specs.declared.Play.{Play}
use Rattle.play.specs.declared.Play.TheVariants.{Pencil}
use Rattle.play.specs.Play.{Played, played, move_for, play_tests, call_tests, record_move, play_of}
use Rattle.play.proofs.Accepted.{play_room}
use Rattle.calls.specs.declared.Call.TheVariants.{Make}
use Rattle.calls.specs.Session.{Session, answers}
use Rattle.demands.specs.Book.{Book, state_in, refused_by, added, taken, with_moves, made, step, keep, says, says_all}
use Rattle.demands.specs.Demand3.{board_in}
use Rattle.demands.specs.Positions.{E, L}
use Rattle.demands.specs.Undo.{yes}
use Rattle.demands.specs.Pencil.{reopening_moves, full_e, OldRules, PencilRows, Bounced, PencilTheorem}
use Rattle.demands.proofs.Computing.{computing}
use Rattle.demands.proofs.Plays.{Passes, length_one_more}
use Rattle.demands.proofs.Refusals.{first_last, passes_unsolved, refused_make, step_taken}
use Rattle.demands.proofs.Good.{Good, good_taken, good_fit, make_passes}
use Rattle.demands.proofs.Held.{Held}
use Rattle.demands.proofs.Steps.{session_of, made_state}
use Rattle.demands.proofs.Lists.{AgreesAll, agrees_all, of_book}
use Rattle.demands.proofs.Turned.{again_passes, twice}
use Rattle.demands.proofs.Undo.{make_silent, says_yes, said_yes}
use Rattle.demands.proofs.Inside.{inside}

old_rules : OldRules
unfolding computing reopening_moves
old_rules =
    record {
      written_struck = refl;
      written_twice = refl;
      written_10 = refl;
      struck_absent = refl;
      struck_twice = refl;
      struck_10 = refl;
      struck_kept = refl;
      struck_off_grid = refl;
      peer_10 = refl;
      peer_11 = refl;
    }

pencil_rows : PencilRows
unfolding computing full_e E L
pencil_rows =
    record {
      one_before_2 = refl;
      two_before_3 = refl;
      three_before_4 = refl;
      seven_before_8 = refl;
      eight_before_15 = refl;
      given = refl;
      kept = refl;
    }

-- ---- two presses

module _ (k : Book) (journal checks : List ℕ) (g : Good k) (h : Held journal checks k) (row column digit : ℕ)
    (e : answers (session_of k journal checks) (Make (Pencil row column digit) ∷ []) ≡ yes ∷ []) (room : k.standing + 1 < max_moves) where
  abbrev press : Play
  press = Pencil row column digit

  p : refused_by k (Make press) ≡ 0
  p = said_yes k journal checks g h (Make press) e

  passes : Passes (state_in k) (added (state_in k) press)
  passes = make_passes k press p

  unsolved : is_on (state_in k).solved ≡ false
  unsolved = passes_unsolved (state_in k) (added (state_in k) press) passes

  -- the book after the first
  unfoldable once : Book
  once = taken k (Make press)

  state_once : state_in once ≡ perform (state_in k) (added (state_in k) press)
  unfolding once
  state_once = made_state k g press

  again : refused_by once (Make press) ≡ 0
  unfolding once taken with_moves
  again =
      refused_make once press
      ∙ first_last (play_tests (state_in once) press) (eqb (k.standing + 1) max_moves) 15 (ne_eqb (k.standing + 1) max_moves (λ z. omega (arith, room, z)))
      ∙ ap (λ (s : State). first (play_tests s press)) state_once
      ∙ again_passes (state_in k) row column digit (good_fit k g) unsolved passes

  -- and after both: the state before them
  state_twice : state_in (taken once (Make press)) ≡ state_in k
  unfolding once
  state_twice =
      made_state once (good_taken k g (Make press) p) press
      ∙ ap (λ (s : State). perform s (added s press)) state_once
      ∙ twice (state_in k) row column digit (good_fit k g) unsolved passes

  all : AgreesAll k journal checks (Make press ∷ Make press ∷ [])
  all = agrees_all k journal checks (Make press ∷ Make press ∷ []) g h

  -- both stand
  both_made : made (taken once (Make press)) ≡ k.standing + 2
  unfolding once taken with_moves made
  both_made =
      length_one_more (take k.standing k.moves ++ (added (state_in k) press ∷ [])) (k.standing + 1) (added (state_in (taken k (Make press))) press)
      (omega (arith, length_one_more k.moves k.standing (added (state_in k) press) g.within))
      ∙ omega arith

  bounced : Bounced (session_of k journal checks) row column digit
  unfolding says_all keep board_in board_of state_of once taken with_moves
  bounced =
      record {
        answered =
            all.said
            ∙ ap (λ (b : Book). says k (Make press) ∷ says b (Make press) ∷ []) (step_taken k (Make press) p)
            ∙ (λ i. says_yes k (Make press) (make_silent k press) p i ∷ says_yes once (Make press) (make_silent once press) again i ∷ []);
        board =
            ap (λ (s : Session). s.board) all.left
            ∙ ap (λ (b : Book). board_in (step b (Make press))) (step_taken k (Make press) p)
            ∙ ap board_in (step_taken once (Make press) again)
            ∙ (λ i. board_of (state_twice i) k.solution (counts (both_made i) (stands i)) (length k.checks));
      }
    where
      stands : k.standing + 1 + 1 ≡ k.standing + 2
      stands = omega arith

-- ---- a call made again

module _ (b : Board) (journal : List ℕ) (a : Play) where
  abbrev number : ℕ
  number = first (call_tests b journal a)

  abbrev its_move : Move
  its_move = move_for (state_of b) a

  accepted_again : number ≡ 0 → play_of b (record_move b journal its_move).journal a ≡ record_move b journal its_move
  unfolding play_of record_move call_tests pick
  accepted_again z =
      ap (λ (n : ℕ). pick (eqb n 0) (record_move b left its_move) (played (refusal n 0 0) b left))
      (ap (λ (n : ℕ). first (lent_tests (eqb n journal_bytes) b (play_tests (state_of b) a ++ ((eqb b.standing max_moves ⇒ 15) ∷ []))))
      (length_over journal (slot_bytes * b.standing) bytes room)
      ∙ z)
      ∙ ap (played accepted (moved b (perform (state_of b) its_move) (recorded (counts_of b)))) (over_over journal (slot_bytes * b.standing) bytes room bytes refl)
    where
      bytes : List ℕ
      bytes = bytes_of (slot_for (state_of b) its_move)

      left : List ℕ
      left = over journal (slot_bytes * b.standing) bytes

      room : slot_bytes * b.standing + length bytes ≤ length journal
      room = omega (arith, play_room b journal a number refl z, bytes_length (slot_for (state_of b) its_move))

  repeated : play_of b (play_of b journal a).journal a ≡ play_of b journal a
  unfolding play_of
  repeated =
      by_test (eqb number 0)
      (λ t. let done = pick_true (eqb number 0) _ _ t in ap (λ (x : Played). play_of b x.journal a) done ∙ accepted_again (eqb-true number 0 t) ∙ sym done)
      (λ t. ap (λ (x : Played). play_of b x.journal a) (pick_false (eqb number 0) _ _ t))

pub pencil_theorem : PencilTheorem
unfolding board_in board_of
pencil_theorem =
    record {
      numbers = inside;
      old_rules = old_rules;
      rows = pencil_rows;
      bounced =
          λ s row column digit r.
          of_book s r (λ (x : Session) (k : Book). answers x (Make (Pencil row column digit) ∷ []) ≡ yes ∷ [] → x.board.standing + 1 < max_moves → Bounced x row column digit)
          (λ k journal checks g h e room. bounced k journal checks g h row column digit e room);
      repeated = repeated;
    }
