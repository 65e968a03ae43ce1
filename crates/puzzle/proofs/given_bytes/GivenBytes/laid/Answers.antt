-- `puzzle::given_bytes::GivenBytes::laid` meets its contract: the givens
-- from `i` on, laid over what the loop has so far, are the whole.
-- Assumes nothing.
use Prim.Native.Nat.{◌+◌, ◌-◌}
use mathlib.Core.Path.{◌≡◌, sym, ap, ◌∙◌}
use native.Mathlib.Nat.{sub-zero}
use Rattle.sudoku.specs.Tests.{run}
use Rattle.sudoku.specs.Grid.{cell_of, put}
use Rattle.sudoku.proofs.Walks.{run_more, run_all}
use Rattle.puzzle.specs.declared.Given.{Given}
use Rattle.puzzle.specs.Code.GivenBytes.{given_in, laid_by}
use Rattle.puzzle.proofs.GivenBytes.{lay_at}
use Rattle.puzzle.proofs.given_bytes.GivenBytes.laid.Goals as goal

pub loop-i-init : goal.loop-i-init
unfolding laid_by
loop-i-init g c value gives = rw sub-zero

pub loop-i-preserved : goal.loop-i-preserved
unfolding put
loop-i-preserved g c value gives =
    let self = c.args.self in
    let turn = c.loop-i in
    let f = given_in self.layout self.bytes.now in
    let at : c.cell_of.result ≡ cell_of (f turn.i).row (f turn.i).column =
    c.cell_of.ensures.0 ∙ ap (λ (given : Given). cell_of given.row given.column) c.given-given.ensures in
    turn.invariant value gives
    ∙ run_more (lay_at f value) turn.cells self.count turn.i c.loop-i-test.true
    ∙ ap (λ l. run (lay_at f value) l (self.count - (turn.i + 1)) (turn.i + 1))
    (sym (c.put_at.ensures ∙ λ j. put turn.cells (at j) ((gives _ _ c.entry.ensures ∙ ap value c.given-given.ensures) j)))

pub returns : goal.returns
returns g c value gives =
    let self = c.args.self in
    let turn = c.loop-i in
    sym (turn.invariant value gives ∙ run_all (lay_at (given_in self.layout self.bytes.now) value) turn.cells self.count turn.i c.loop-i-test.false)
