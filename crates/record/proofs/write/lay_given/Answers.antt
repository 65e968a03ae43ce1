-- `record::write::lay_given` meets its contract: where the cell's digit is no given, no bytes are laid.
-- Assumes nothing.
use mathlib.Core.Path.{◌≡◌, sym, ap, ◌∙◌}
use mathlib.Core.List.{[]}
use native.Mathlib.Omega.{arith}
use lib.ListN.{length}
use Rattle.sudoku.specs.Tests.{pick}
use Rattle.journal.specs.Bytes.{over}
use Rattle.journal.proofs.Memory.{over_nil}
use Rattle.record.specs.Code.Laying.{given_bytes}
use Rattle.record.proofs.write.lay_given.Goals as goal

pub returns-then-not-is_given : goal.returns-then-not-is_given
unfolding given_bytes pick
returns-then-not-is_given c =
    let a = c.args in
    let b = a.board.now in
    let none : given_bytes b.given b.digits a.cell ≡ [] = rw (sym c.is_given.ensures ∙ c.if-not-is_given.true) in
    (omega (arith, ap length none), sym (over_nil a.output.now a.at) ∙ ap (over a.output.now a.at) (sym none))
