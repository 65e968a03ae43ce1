-- `puzzle::is_full` meets its contract: the entries are tested one by one.
-- Assumes nothing.
use Prim.Native.Nat.{ℕ}
use mathlib.Core.Path.{ap, ◌∙◌}
use mathlib.Core.Bool.{Bool, not}
use borrow.Author.Rules.{rules}
use borrow.Author.Tests.{tests}
use lib.Dec.{eqb}
use Rattle.std.proofs.lemmas.Iterator.{YieldsList-from_slice}
use Rattle.std.proofs.lemmas.Iterator.Search.{all_from_yields_List}
use Rattle.sudoku.specs.Tests.{every}
use Rattle.sudoku.proofs.Chains.{all_walk, at_place}
use Rattle.puzzle.specs.Puzzle.{is_full, holds_digit}
use Rattle.puzzle.proofs.is_full.Goals as goal

pub returns : goal.returns
unfolding is_full holds_digit
returns c =
    let digits = c.args.digits.now in
    let test : ℕ → Bool = λ digit. not (eqb digit 0) in
    all_from_yields_List test _ _ _ c.all.ensures.ran (YieldsList-from_slice digits cc) (λ x b q k. search (rules, tests))
    ∙ all_walk (holds_digit digits) test digits 1 (λ k l. ap test (at_place digits k))
    ∙ ap (λ (n : ℕ). every (holds_digit digits) n 1) c.told-digits
