-- `readings::replay::after` meets its contract: what is left to apply from slot n on leads to the same state.
-- Assumes nothing.
use Prim.Native.Nat.{ℕ, ◌+◌, ◌-◌, ◌≤◌, ◌<◌}
use mathlib.Core.Path.{◌≡◌, refl, sym, ap, ◌∙◌}
use mathlib.Core.List.{List}
use native.Mathlib.Omega.{arith}
use Rattle.sudoku.specs.Tests.{run}
use Rattle.sudoku.proofs.Walks.{run_more, run_all}
use Rattle.journal.specs.declared.Slot.{Slot}
use Rattle.journal.specs.State.{State, perform_again}
use Rattle.journal.specs.Slots.{move_of}
use Rattle.board.specs.declared.Board.{Board}
use Rattle.board.specs.Board.{state_of, counts_of, board_of, moved}
use Rattle.readings.specs.Reading.{opening_of, opening_board, apply_slot, state_after, board_after}
use Rattle.readings.proofs.replay.after.Goals as goal

-- what the opening board is: its state, and the rest of the board as it came
module _ (b : Board) where
  opened_state : state_of (opening_board b) ≡ opening_of b
  unfolding state_of opening_board board_of moved
  opened_state = refl

  rest_stays : (s : State) → moved (opening_board b) s (counts_of (opening_board b)) ≡ moved b s (counts_of b)
  unfolding opening_board counts_of board_of moved
  rest_stays s = refl

-- the walk from slot n on: the rest of the board stays, and what is left leads to the same state
module _ (opened stood : Board) (journal : List ℕ) (k n : ℕ) (same : stood ≡ moved opened (state_of stood) (counts_of opened))
    (left : run (apply_slot journal) (state_of opened) k 1 ≡ run (apply_slot journal) (state_of stood) (k + 1 - n) n) where
  -- a turn
  turned : (next : Board) → n < k + 1 → next ≡ moved stood (apply_slot journal (state_of stood) n) (counts_of stood)
      → (next ≡ moved opened (state_of next) (counts_of opened))
      × (run (apply_slot journal) (state_of opened) k 1 ≡ run (apply_slot journal) (state_of next) (k + 1 - (n + 1)) (n + 1))
  unfolding state_of counts_of board_of moved
  turned next h done =
      let applied = ap state_of done in (
        done
            ∙ ap (λ (b : Board). moved b (apply_slot journal (state_of stood) n) (counts_of b)) same
            ∙ ap (λ (t : State). moved opened t (counts_of opened)) (sym applied),
        left
            ∙ run_more (apply_slot journal) (state_of stood) (k + 1) n h
            ∙ ap (λ (t : State). run (apply_slot journal) t (k + 1 - (n + 1)) (n + 1)) (sym applied),
      )

  -- nothing is left
  ended : (b : Board) → opened ≡ opening_board b → k + 1 ≤ n → stood ≡ board_after b journal k
  unfolding board_after state_after
  ended b opening h =
      let all : state_of stood ≡ state_after b journal k =
      sym
      (ap (λ (t : State). run (apply_slot journal) t k 1) (sym (ap state_of opening ∙ opened_state b))
      ∙ left
      ∙ run_all (apply_slot journal) (state_of stood) (k + 1) n h) in
      same
      ∙ ap (λ (t : State). moved opened t (counts_of opened)) all
      ∙ ap (λ (x : Board). moved x (state_after b journal k) (counts_of x)) opening
      ∙ rest_stays b (state_after b journal k)

pub loop-n-init : goal.loop-n-init
unfolding state_of counts_of board_of moved
loop-n-init c =
    let a = c.args in
    (refl, ap (λ (n : ℕ). run (apply_slot a.journal.now) (state_of c.opening-stood.result) n 1) {x = a.k} {y = a.k + 1 - 1} (omega arith))

-- the move of slot n, gone over again
pub loop-n-preserved : goal.loop-n-preserved
unfolding apply_slot
loop-n-preserved c =
    let a = c.args in
    let turn = c.loop-n in
    let s = state_of turn.stood in
    turned c.opening-stood.result turn.stood a.journal.now a.k turn.n turn.invariant.0 turn.invariant.1 _ (omega arith)
    (c.perform_again.ensures ∙ ap (λ (x : Slot). moved turn.stood (perform_again s (move_of x) x.struck) (counts_of turn.stood)) c.slot_at.ensures)

-- no slot, and after the last one
pub returns : goal.returns
returns c =
    let a = c.args in
    let turn = c.loop-n in
    ended c.opening-stood.result turn.stood a.journal.now a.k turn.n turn.invariant.0 turn.invariant.1 a.board c.opening-stood.ensures (omega arith)

pub returns-2 : goal.returns-2
unfolding apply_slot
returns-2 c =
    let a = c.args in
    let turn = c.loop-n in
    let s = state_of turn.stood in
    let last = turned c.opening-stood.result turn.stood a.journal.now a.k turn.n turn.invariant.0 turn.invariant.1 _ (omega arith)
    (c.perform_again.ensures ∙ ap (λ (x : Slot). moved turn.stood (perform_again s (move_of x) x.struck) (counts_of turn.stood)) c.slot_at.ensures) in
    ended c.opening-stood.result _ a.journal.now a.k (turn.n + 1) last.0 last.1 a.board c.opening-stood.ensures (omega arith)
