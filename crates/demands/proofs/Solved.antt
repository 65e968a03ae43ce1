-- Demand 2's theorem, proved: a board that calls reach is solved
-- exactly when every row, column and box holds each of 1 to 9 once.
-- Assumes nothing.
use Prim.Native.Nat.{ℕ, ◌≤◌}
use mathlib.Core.Path.{◌≡◌, sym, ap, ◌∙◌}
use mathlib.Core.Bool.{true}
use mathlib.Core.Logic.{◌↔◌}
use native.Mathlib.Omega.{arith}
use lib.Dec.{eqb}
use borrow.Author.Tests.{eqb-true, eqb-false}
use Rattle.sudoku.specs.Tests.{both}
use Rattle.sudoku.specs.Grid.{are_peers}
use Rattle.sudoku.proofs.Walks.{by_test, not_both_ways, bit_le}
use Rattle.sudoku.proofs.Grid.{peers_not_self}
use Rattle.puzzle.specs.Puzzle.{is_full, is_consistent}
use Rattle.puzzle.specs.EachOnce.{EachOnce}
use Rattle.puzzle.proofs.EachOnce.{unit_nine, unit_peers, peers_unit, solved_iff}
use Rattle.journal.specs.State.{digit_at}
use Rattle.board.specs.Board.{board_of}
use Rattle.board.specs.Open.{opened_fresh}
use Rattle.calls.specs.Session.{Session, after, started}
use Rattle.demands.specs.Book.{Book, state_in}
use Rattle.demands.specs.Demand3.{board_in, Reached}
use Rattle.demands.specs.Solved.{Share, SolvedTheorem}
use Rattle.demands.proofs.Good.{Good, good_fit}
use Rattle.demands.proofs.Lists.{of_book}
use Rattle.demands.proofs.Demand3.{demand3}

board_solved : (k : Book) → Good k → ((board_in k).solved ≡ 1) ↔ EachOnce (board_in k).digits
unfolding board_in board_of digit_at
board_solved k g = solved_iff (state_in k).digits (good_fit k g).digits (state_in k).solved (good_fit k g).status

solved_flag : (k : Book) → Good k → (board_in k).solved ≤ 1
unfolding board_in board_of
solved_flag k g = omega (arith, (good_fit k g).status, bit_le (both (is_full (state_in k).digits) (is_consistent (state_in k).digits)))

board_unsolved : (k : Book) → Good k → ((board_in k).solved ≡ 0) ↔ (EachOnce (board_in k).digits → ⊥)
board_unsolved k g = (
  (λ z each. omega (arith, z, (board_solved k g).1 each)),
  (λ never. by_test (eqb (board_in k).solved 1) (λ t. absurd (never ((board_solved k g).0 (eqb-true (board_in k).solved 1 t)))) (λ t. omega (arith, solved_flag k g, eqb-false (board_in k).solved 1 t))),
)

reached : (s : Session) → Reached s → (s.board.solved ≡ 1) ↔ EachOnce s.board.digits
reached s r = of_book s r (λ (x : Session) (k : Book). (x.board.solved ≡ 1) ↔ EachOnce x.board.digits) (λ k journal checks g h. board_solved k g)

-- peers share a unit, and no cell is its own peer
peers_share : (cell other : ℕ) → are_peers cell other ≡ true → Share cell other
peers_share cell other t =
    let shared = peers_unit cell other t in
    record {
      kind = shared.kind;
      unit = shared.same;
      two = λ e. not_both_ways (are_peers cell other) t (ap (λ (n : ℕ). are_peers cell n) (sym e) ∙ peers_not_self cell);
    }

pub solved_theorem : SolvedTheorem
solved_theorem =
    record {
      exactly =
          λ givens solution calls o.
          reached (after (started (opened_fresh givens solution)) calls)
          (record { givens = givens; solution = solution; opens = o; calls = calls; kept = (demand3.played givens solution calls o).kept });
      reached = reached;
      unsolved = λ s r. of_book s r (λ (x : Session) (k : Book). (x.board.solved ≡ 0) ↔ (EachOnce x.board.digits → ⊥)) (λ k journal checks g h. board_unsolved k g);
      nine = unit_nine;
      peers = λ cell other p q. (peers_share cell other, (λ share. unit_peers cell other p q share.kind share.unit share.two));
    }
