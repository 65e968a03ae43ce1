-- A number found in two steps.
-- Assumes nothing.
use Rattle.std.specs.Prelude.{ℕ, eqb}
use Rattle.sudoku.specs.Tests.{pick}

-- the number n, and where it is 0, and refuses nothing, the number k
unfoldable pub or_number : ℕ → ℕ → ℕ
or_number n k = pick (eqb n 0) k n
