-- A law for the numbers of refusals that a function finds by one `if` for each test.
-- Assumes nothing.
use Prim.Native.Nat.{ℕ}
use mathlib.Core.Path.{◌≡◌, ◌∙◌}
use mathlib.Core.Bool.{Bool, false}
use mathlib.Core.List.{[], ◌∷◌}
use Rattle.sudoku.specs.Tests.{◌⇒◌, first}
use Rattle.sudoku.proofs.Walks.{no_if, first_none}

-- the last test does not hold either: the call is accepted
pub last_if : (t : Bool) (n : ℕ) → t ≡ false → first ((t ⇒ n) ∷ []) ≡ 0
last_if t n p = no_if t n [] p ∙ first_none
