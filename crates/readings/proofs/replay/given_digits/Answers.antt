-- `readings::replay::given_digits` meets its contract: the entry at i is the digit of cell i + 1, if it is a given.
-- Assumes nothing.
use Prim.Native.Nat.{ℕ, ◌+◌}
use mathlib.Core.Path.{ap, ◌∙◌}
use mathlib.Core.List.{List}
use native.Mathlib.Omega.{arith}
use borrow.Author.Rules.{rules}
use Rattle.puzzle.specs.Givens.{is_given}
use Rattle.sudoku.specs.Tests.{pick}
use Rattle.sudoku.specs.Grid.{at}
use Rattle.sudoku.proofs.Listed.{listed_shift}
use Rattle.sudoku.proofs.Made.{made_listed}
use Rattle.readings.proofs.replay.given_digits.Goals as goal

abbrev digit_of : List ℕ → List ℕ → ℕ → ℕ
digit_of given digits cell = pick (is_given given cell) (at digits cell) 0

pub returns : goal.returns
returns c =
    let f = λ (cell : ℕ). digit_of c.args.given.now c.args.digits.now cell in
    made_listed (λ (i : ℕ). f (i + 1)) _ 81 (λ k y q l e. search rules) _ c.from_fn.ensures.items
    ∙ listed_shift (λ (i : ℕ). f (i + 1)) f 81 0 1 (λ k. ap f {x = 0 + k + 1} {y = 1 + k} (omega arith))
