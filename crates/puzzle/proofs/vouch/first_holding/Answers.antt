-- `puzzle::vouch::first_holding` meets its contract: what is left to test from an index on decides.
-- Assumes nothing.
use Prim.Native.Nat.{ℕ, ◌-◌, ◌/◌, ◌%◌, ◌≤◌}
use mathlib.Core.Path.{◌≡◌, refl, sym, ap, ◌∙◌}
use mathlib.Core.List.{List, []}
use native.Mathlib.Omega.{arith}
use lib.ListN.{get_or}
use Rattle.sudoku.specs.Grid.{at}
use Rattle.puzzle.specs.Code.Rows.{flat}
use Rattle.puzzle.proofs.Rows.{flat_cell}
use Rattle.puzzle.proofs.Search.{holding_here, holding_later, holding_nowhere}
use Rattle.puzzle.proofs.vouch.first_holding.Goals as goal

-- what the rows hold at the cell of this turn
held : (rows : List (List ℕ)) (cell place : ℕ) → cell ≤ 81 → place ≡ cell - 1 → at (flat rows) cell ≡ get_or (get_or rows (place / 9) []) (place % 9) 0
held rows cell place h e = flat_cell rows cell h ∙ ap (λ (k : ℕ). get_or (get_or rows (k / 9) []) (k % 9) 0) (sym e)

pub loop-cell-init : goal.loop-cell-init
loop-cell-init c = refl

pub offset_bounds-rows-at : goal.offset_bounds-rows-at
offset_bounds-rows-at c = omega (arith, c.index_of-at.ensures, c.from.ensures, c.requires c.loop-cell.cell-index (omega arith))

pub bounds-rows-at : goal.bounds-rows-at
bounds-rows-at c = omega (arith, c.index_of-at.ensures, c.from.ensures, c.requires c.loop-cell.cell-index (omega arith))

pub returns-then-rows-at : goal.returns-then-rows-at
returns-then-rows-at c =
    let a = c.args in
    let turn = c.loop-cell in
    let cell = c.requires turn.cell-index (omega arith) in
    record {
      first =
          sym (turn.invariant ∙ holding_here (flat a.rows) a.digit a.cells turn.cell-index (omega arith)
          (held a.rows _ c.index_of-at.result cell.1 (c.index_of-at.ensures ∙ ap (λ (k : ℕ). k - 1) c.from.ensures) ∙ c.if-rows-at.true));
      cell = cell.0;
    }

pub loop-cell-preserved : goal.loop-cell-preserved
loop-cell-preserved c =
    let a = c.args in
    let turn = c.loop-cell in
    let cell = c.requires turn.cell-index (omega arith) in
    turn.invariant ∙ holding_later (flat a.rows) a.digit a.cells turn.cell-index (omega arith)
    (λ e. c.if-rows-at.false (sym (held a.rows _ c.index_of-at.result cell.1 (c.index_of-at.ensures ∙ ap (λ (k : ℕ). k - 1) c.from.ensures)) ∙ e))

pub returns : goal.returns
returns c =
    let a = c.args in
    let turn = c.loop-cell in
    record { first = sym (turn.invariant ∙ holding_nowhere (flat a.rows) a.digit a.cells turn.cell-index (omega arith)); cell = tt }
