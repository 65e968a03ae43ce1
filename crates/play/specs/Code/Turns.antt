-- The two moves at the standing count, by their slots: the latest, which stands, and the next, which does not. Each has
-- a test that says there is none, and the number of its slot; what is shown of either is one definition over these two.
-- Assumes nothing.
use Rattle.std.specs.Prelude.{ℕ, ◌+◌, ◌≡◌, ◌≤◌, List, [], ◌∷◌, leb, eqb, length}
use Rattle.sudoku.specs.Tests.{Test, ◌⇒◌, first, pick}
use Rattle.journal.specs.declared.Counts.{Counts}
use Rattle.journal.specs.Limits.{journal_bytes}
use Rattle.journal.specs.Slots.{slot_part}
use Rattle.board.specs.declared.Board.{Board}
use Rattle.board.specs.Board.{counts_of, lent_tests}

abbrev pub latest_none : Counts → Test
latest_none c = eqb c.standing 0 ⇒ 12

abbrev pub latest_at : Counts → ℕ
latest_at c = c.standing

abbrev pub next_none : Counts → Test
next_none c = leb c.made c.standing ⇒ 13

abbrev pub next_at : Counts → ℕ
next_at c = c.standing + 1

-- what showing the move tests: 1 and 2, and whether there is none
unfoldable pub shown_number : (Counts → Test) → Board → List ℕ → ℕ
shown_number none b journal = first (lent_tests (eqb (length journal) journal_bytes) b (none (counts_of b) ∷ []))

-- the part of the lent journal that holds its slot, an empty part after a refusal
unfoldable pub shown_part : (Counts → Test) → (Counts → ℕ) → Board → List ℕ → List ℕ
shown_part none at b journal = pick (eqb (shown_number none b journal) 0) (slot_part journal (at (counts_of b))) []

-- a move that is there is one of those that were made
abbrev pub Within : (Counts → Test) → (Counts → ℕ) → Type 0
Within none at = (c : Counts) → first (none c ∷ []) ≡ 0 → c.standing ≤ c.made → (1 ≤ at c) × (at c ≤ c.made)
