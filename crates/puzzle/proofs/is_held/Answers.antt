-- `puzzle::is_held` meets its contract: the cells are tested one by one.
-- Assumes nothing.
use Prim.Native.Nat.{ℕ}
use mathlib.Core.Path.{◌∙◌}
use mathlib.Core.Bool.{Bool}
use borrow.Author.Rules.{rules}
use borrow.Author.Tests.{tests}
use lib.Dec.{eqb}
use Rattle.std.proofs.lemmas.Iterator.{YieldsList-from_slice}
use Rattle.std.proofs.lemmas.Iterator.Search.{any_from_yields_List}
use Rattle.sudoku.specs.Grid.{at}
use Rattle.puzzle.proofs.Search.{held_any}
use Rattle.puzzle.proofs.is_held.Goals as goal

pub returns : goal.returns
returns c =
    let a = c.args in
    let test : ℕ → Bool = λ cell. eqb (at a.digits.now cell) a.digit in
    any_from_yields_List test _ _ _ c.any.ensures.ran (YieldsList-from_slice a.cells cc) (λ x b q k. search (rules, tests))
    ∙ held_any a.digits.now a.digit a.cells
