-- `puzzle::vouch::conflict_at` meets its contract: the first peer equal to the cell decides.
-- Assumes nothing.
use Prim.Native.Nat.{ℕ, ◌≤◌}
use mathlib.Core.Path.{◌≡◌, refl, sym}
use mathlib.Core.List.{List}
use native.Mathlib.Omega.{arith}
use borrow.Author.Tests.{eq-eqb, ne_eqb}
use lib.Dec.{eqb}
use Rattle.sudoku.specs.Grid.{at, peers_of}
use Rattle.sudoku.proofs.Walks.{not_is_true, not_is_false}
use Rattle.sudoku.proofs.Grid.{is_cell_lem, peers_from, peers_to}
use Rattle.puzzle.specs.Refusals.{refusal, accepted}
use Rattle.puzzle.specs.Vouch.{first_holding, solution_conflict}
use Rattle.puzzle.specs.Code.Rows.{flat}
use Rattle.puzzle.proofs.Accepted.{if_not}
use Rattle.puzzle.proofs.Refusals.{refused_if_lem}
use Rattle.puzzle.proofs.Rows.{flat_cell}
use Rattle.puzzle.proofs.vouch.conflict_at.Goals as goal

module _ (s : List ℕ) (cell peer : ℕ) (e : peer ≡ first_holding s (at s cell) (peers_of cell)) where
  held : 1 ≤ peer → refusal 25 cell peer ≡ solution_conflict s cell
  unfolding solution_conflict
  held h = sym (rw (← e) (refused_if_lem _ (refusal 25 cell peer) (not_is_true (eqb peer 0) (ne_eqb peer 0 (λ z. omega (arith, z))))))

  free : peer ≡ 0 → accepted ≡ solution_conflict s cell
  unfolding solution_conflict
  free z = sym (rw (← e) (if_not _ (refusal 25 cell peer) (not_is_false (eqb peer 0) (eq-eqb peer 0 z))))

pub first_holding-requires : goal.first_holding-requires
first_holding-requires c i h =
    let cell = c.args.cell in
    let p = is_cell_lem cell c.requires.0 c.requires.1 in
    rw c.peers.ensures (peers_from cell p i h, peers_to cell p i h)

pub returns-in-Some : goal.returns-in-Some
returns-in-Some c =
    let a = c.args in
    held (flat a.rows) a.cell c.in-Some.peer
    (rw (← flat_cell a.rows a.cell c.requires.1, c.peers.ensures) at c.in-Some.ensures.first) c.in-Some.ensures.cell

pub returns-in-None : goal.returns-in-None
returns-in-None c =
    let a = c.args in
    free (flat a.rows) a.cell 0 (rw (← flat_cell a.rows a.cell c.requires.1, c.peers.ensures) at c.in-None.ensures.first) refl
