-- `puzzle::given_bytes::GivenBytes::laid` meets its contract: the givens
-- from `i` on, laid over what the loop has so far, are the whole.
-- Assumes nothing.
use Prim.Native.Nat.{ℕ, ◌-◌}
use mathlib.Core.Path.{◌≡◌}
use Rattle.sudoku.specs.Tests.{run}
use Rattle.puzzle.specs.declared.Given.{Given}
use Rattle.puzzle.specs.Code.GivenBytes.{given_in, laid_by}
use Rattle.puzzle.proofs.GivenBytes.{lay_at}
use Rattle.puzzle.proofs.given_bytes.GivenBytes.laid.Given as goal

abbrev pub invariant-loop-i : goal.invariant-loop-i
invariant-loop-i g l =
    (value : Given → ℕ) → ((given : Given) (x : ℕ) → goal.F-post g l.entry given x → x ≡ value given)
    → laid_by value l.self.layout l.self.bytes.now l.self.count
    ≡ run (lay_at (given_in l.self.layout l.self.bytes.now) value) l.cells (l.self.count - l.i) l.i
