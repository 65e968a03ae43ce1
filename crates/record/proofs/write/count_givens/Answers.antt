-- `record::write::count_givens` meets its contract: the flags that are set are counted.
-- Assumes nothing.
use Prim.Native.Nat.{ℕ}
use mathlib.Core.Path.{ap, ◌∙◌}
use native.Mathlib.Omega.{arith}
use lib.Seq.{take_all}
use Rattle.std.specs.List.{count_by}
use Rattle.puzzle.specs.Givens.{is_on, is_given}
use Rattle.sudoku.specs.Tests.{count}
use Rattle.sudoku.proofs.Chains.{count_walk, at_place}
use Rattle.record.proofs.write.count_givens.Goals as goal

pub returns : goal.returns
unfolding is_given
returns c =
    let given = c.args.given.now in (
      c.from.ensures
          ∙ c.loop-flag.invariant.0
          ∙ ap (count_by is_on) (take_all c.loop-flag.flag-index given (omega arith))
          ∙ count_walk (is_given given) is_on given 1 (λ k l. ap is_on (at_place given k))
          ∙ ap (λ (n : ℕ). count (is_given given) n 1) c.told-given,
      omega arith,
    )
