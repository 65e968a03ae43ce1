-- How the code reads a record: what a kind byte decides, the item at an offset, and
-- one item after the other counted; and what a scan of the whole record answers.
-- Assumes nothing.
use Rattle.std.specs.Prelude.{ℕ, ◌+◌, ◌^◌, ◌<◌, Bool, not, List, [], ◌∷◌, Option, Some, None, leb, ltb, eqb, length, get_or}
use Rattle.sudoku.specs.Tests.{pick, both, either}
use Rattle.puzzle.specs.declared.Refusal.{Refusal}
use Rattle.puzzle.specs.Refusals.{refusal, refused_if, or_else}
use Rattle.puzzle.specs.Givens.{given}
use Rattle.journal.specs.declared.Move.{Move}
use Rattle.journal.specs.Limits.{max_moves, max_checks}
use Rattle.journal.specs.Bytes.{two}
use Rattle.journal.specs.Slots.{move_of}
use Rattle.journal.specs.declared.Asked.{Asked}
use Rattle.record.specs.declared.Group.{Group}
use Rattle.record.specs.declared.Group.TheVariants.{Givens, Moves, Count, Checks}
use Rattle.record.specs.declared.Item.{Item}
use Rattle.record.specs.declared.Item.TheVariants.{Given, Played, Undone, Check}
use Rattle.record.specs.declared.Phase.{Phase}
use Rattle.record.specs.declared.Phase.TheVariants.{Givens as AmongGivens, Moves as AmongMoves, Checks as AmongChecks}
use Rattle.record.specs.declared.Progress.{Progress}
use Rattle.record.specs.declared.Read.{Read}
use Rattle.record.specs.declared.Scanned.{Scanned}
use Rattle.record.specs.declared.Shape.{Shape}
use Rattle.record.specs.Items.{Parts, encode, check_item}
use Rattle.record.specs.Scan.{Taken, got, broken, take_item, by_kind}
use Rattle.record.specs.Reopen.{any_late}

-- ---- one item

abbrev pub shape : Group → ℕ → Option Shape
shape group body = Some (record { group = group; body = body })

-- what the kind byte of an item decides: its group, and how many
-- bytes of body follow; kinds 0 and 8 to 255 are no item's
unfoldable pub shape_of : ℕ → Option Shape
shape_of kind =
    by_kind kind (shape Givens 3) (shape Moves 3) (shape Moves 2) (shape Moves 3) (shape Moves 3) (shape Count 2) (shape Checks 5)
    None

-- what stands first in some bytes
unfoldable pub taken : List ℕ → Taken
taken [] = broken
taken (kind ∷ bytes) = take_item kind bytes

-- the same at an offset: an item, and where the next one starts
abbrev pub read : Item → ℕ → Read
read i next = record { item = i; next = next }

unfoldable pub read_of : ℕ → Taken → Option Read
read_of at (got i rest) = Some (read i (at + length (encode i)))
read_of at broken = None

-- the move whose kind byte stands at an offset, and the check; bytes past the end read as 0
unfoldable pub move_at : List ℕ → ℕ → Move
move_at bytes at =
    move_of
    (record {
      kind = get_or bytes at 0;
      row = get_or bytes (at + 1) 0;
      column = get_or bytes (at + 2) 0;
      digit = get_or bytes (at + 3) 0;
      before = 0;
      struck = 0;
    })

unfoldable pub asked_from : List ℕ → ℕ → Asked
asked_from bytes at =
    record {
      standing = two (get_or bytes (at + 1) 0) (get_or bytes (at + 2) 0);
      row = get_or bytes (at + 3) 0;
      column = get_or bytes (at + 4) 0;
      digit = get_or bytes (at + 5) 0;
    }

-- the item of a group whose kind byte stands at an offset
unfoldable pub item_of : List ℕ → ℕ → Group → Item
item_of bytes at Givens = Given (given (get_or bytes (at + 1) 0) (get_or bytes (at + 2) 0) (get_or bytes (at + 3) 0))
item_of bytes at Moves = Played (move_at bytes at)
item_of bytes at Count = Undone (two (get_or bytes (at + 1) 0) (get_or bytes (at + 2) 0))
item_of bytes at Checks = check_item (asked_from bytes at)

-- ---- one item counted

-- 0 among the givens, 1 among the moves, 2 after the undone count
abbrev pub phase_number : Phase → ℕ
phase_number AmongGivens = 0
phase_number AmongMoves = 1
phase_number AmongChecks = 2

abbrev pub scanned : ℕ → ℕ → ℕ → ℕ → Bool → Scanned
scanned givens moves undone checks late =
    record { givens = givens; moves = moves; undone = undone; checks = checks; late = late }

abbrev pub progress : Phase → ℕ → ℕ → Scanned → Progress
progress phase item at counts = record { phase = phase; item = item; at = at; counts = counts }

-- no count is so large that one more would not fit
pub record Room (s : Progress) : Type 0 where
  pub item : s.item < 2 ^ 63
  pub givens : s.counts.givens < 2 ^ 63
  pub moves : s.counts.moves < 2 ^ 63
  pub checks : s.counts.checks < 2 ^ 63

-- each group's item, where the next item starts at `next`; it is counted where it may stand
unfoldable pub given_step : Progress → ℕ → Option Progress
given_step s next =
    let c = s.counts in
    pick (eqb (phase_number s.phase) 0)
    (Some (progress s.phase (s.item + 1) next (scanned (c.givens + 1) c.moves c.undone c.checks c.late)))
    None

unfoldable pub move_step : Progress → ℕ → Option Progress
move_step s next =
    let c = s.counts in
    pick (leb (phase_number s.phase) 1)
    (Some (progress AmongMoves (s.item + 1) next (scanned c.givens (c.moves + 1) c.undone c.checks c.late)))
    None

unfoldable pub undone_step : Progress → ℕ → ℕ → Option Progress
undone_step s next undone =
    let c = s.counts in
    pick (leb (phase_number s.phase) 1)
    (Some (progress AmongChecks (s.item + 1) next (scanned c.givens c.moves undone c.checks c.late)))
    None

unfoldable pub check_step : Progress → ℕ → ℕ → Option Progress
check_step s next standing =
    let c = s.counts in
    pick (eqb (phase_number s.phase) 2)
    (Some
    (progress s.phase (s.item + 1) next
    (scanned c.givens c.moves c.undone (c.checks + 1) (either c.late (not (leb standing max_moves))))))
    None

unfoldable pub item_step : Progress → Item → ℕ → Option Progress
item_step s (Given g) next = given_step s next
item_step s (Played m) next = move_step s next
item_step s (Undone n) next = undone_step s next n
item_step s (Check c) next = check_step s next c.standing

-- ---- the whole record

-- what a record of these parts counts, and whether a check's standing is above the limit
unfoldable pub counts_of : Parts → Scanned
counts_of p = scanned (length p.givens) (length p.moves) p.undone (length p.checks) (any_late p.checks)

-- 18, 20 and 21 of what a scan answers
unfoldable pub is_oversized : Scanned → Bool
is_oversized s = either (not (leb s.moves max_moves)) (either (not (leb s.checks max_checks)) s.late)

unfoldable pub miscounted_by : Scanned → Refusal
miscounted_by s =
    or_else (refused_if (ltb s.moves s.undone) (refusal 20 0 0))
    (refused_if (both (eqb s.moves 0) (not (eqb s.checks 0))) (refusal 21 0 0))
