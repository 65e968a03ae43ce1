-- `puzzle::given_bytes::GivenBytes::is_ascending` meets its contract: each given is compared with the one before it.
-- Assumes nothing.
use Prim.Native.Nat.{ℕ, ◌-◌}
use mathlib.Core.Path.{refl, sym, ◌∙◌}
use mathlib.Core.Bool.{Bool}
use borrow.Author.Rules.{rules}
use borrow.Author.Tests.{tests}
use Rattle.std.proofs.lemmas.Iterator.{YieldsList-from_range}
use Rattle.std.proofs.lemmas.Iterator.Search.{all_from_yields_List}
use Rattle.sudoku.proofs.Chains.{all_range}
use Rattle.puzzle.specs.Code.GivenBytes.{given_in, givens_in}
use Rattle.puzzle.proofs.GivenBytes.{in_order, ascending_walk}
use Rattle.puzzle.proofs.given_bytes.GivenBytes.is_ascending.Goals as goal

pub returns : goal.returns
unfolding givens_in
returns c =
    let given = given_in c.args.self.layout c.args.self.bytes.now in
    let test : ℕ → Bool = in_order given in
    let n = c.args.self.count in
    all_from_yields_List test _ _ _ c.all.ensures.ran (YieldsList-from_range 1 n (n - 1) (cc) refl) (λ x b q k. search (rules, tests))
    ∙ all_range test (n - 1) 1
    ∙ sym (ascending_walk given n)
