-- The journal's two counts, made and standing (journal.rs), and the three steps over them.
-- Assumes nothing.
use Rattle.std.specs.Prelude.{ℕ, ◌+◌, ◌-◌, min, leb, eqb}
use Rattle.sudoku.specs.Tests.{pick}
use Rattle.journal.specs.declared.Counts.{Counts}
use Rattle.journal.specs.Limits.{max_moves}

abbrev pub counts : ℕ → ℕ → Counts
counts made standing = record { made = made; standing = standing }

-- recording drops all moves after standing, adds one, and both counts
-- equal the new length; nothing where standing is at or above the limit
unfoldable pub recorded : Counts → Counts
recorded c =
    let n = min c.made c.standing + 1 in
    pick (leb max_moves c.standing) c (counts n n)

-- taking back lowers standing by one; nothing at 0
unfoldable pub taken_back : Counts → Counts
taken_back c = pick (eqb c.standing 0) c (counts c.made (c.standing - 1))

-- retaking raises standing by one; nothing at made or above
unfoldable pub retaken : Counts → Counts
retaken c = pick (leb c.made c.standing) c (counts c.made (c.standing + 1))
