-- `puzzle::vouch::first_holding` meets its contract: what is left to test from an index on decides.
-- Assumes nothing.
use mathlib.Core.Path.{◌≡◌}
use lib.ListN.{drop}
use Rattle.puzzle.specs.Vouch.{first_holding}
use Rattle.puzzle.specs.Code.Rows.{flat}
use Rattle.puzzle.proofs.vouch.first_holding.Given as goal

abbrev pub invariant-loop-cell : goal.invariant-loop-cell
invariant-loop-cell l =
    first_holding (flat l.rows) l.digit l.cell-items ≡ first_holding (flat l.rows) l.digit (drop l.cell-index l.cell-items)
