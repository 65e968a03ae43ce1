-- `puzzle::given_bytes::GivenBytes::match_rows` meets its contract: what is left to test from `i` on decides.
-- Assumes nothing.
use Prim.Native.Nat.{◌-◌}
use mathlib.Core.Path.{◌≡◌}
use Rattle.puzzle.specs.Refusals.{first_refused}
use Rattle.puzzle.specs.Code.GivenBytes.{given_in, givens_in}
use Rattle.puzzle.specs.Code.Rows.{flat}
use Rattle.puzzle.specs.Vouch.{givens_match}
use Rattle.puzzle.proofs.GivenBytes.{match_at}
use Rattle.puzzle.proofs.given_bytes.GivenBytes.match_rows.Given as goal

abbrev pub invariant-loop-i : goal.invariant-loop-i
invariant-loop-i l =
    givens_match (flat l.rows) (givens_in l.self.layout l.self.bytes.now l.self.count) 1
    ≡ first_refused (match_at (given_in l.self.layout l.self.bytes.now) (flat l.rows)) (l.self.count - l.i) l.i
