-- Worked examples: small records and counts, of which antt works out why they are refused.
-- Assumes nothing.
use Prim.Native.Nat.{ℕ, suc}
use mathlib.Core.Path.{◌≡◌, refl}
use mathlib.Core.Bool.{true, false}
use mathlib.Core.List.{[], ◌∷◌}
use Rattle.sudoku.specs.Tests.{pick, either}
use Rattle.puzzle.specs.Refusals.{refusal}
use Rattle.journal.specs.Limits.{max_moves}
use Rattle.journal.specs.declared.Asked.{Asked}
use Rattle.record.specs.Scan.{take_item, by_kind, body2, body3, body5, go_on, items_in, items_of_bytes, reached, may_stand, scan, malformed}
use Rattle.record.specs.Reopen.{any_late}

-- no bytes: kind 6 is missing, and no item stands before
pub no_bytes : malformed [] ≡ refusal 17 1 0
unfolding malformed items_of_bytes items_in scan pick
no_bytes = refl

-- a second undone count, and a check before it, can't stand
pub two_undone : malformed (6 ∷ 0 ∷ 0 ∷ 6 ∷ 0 ∷ 0 ∷ []) ≡ refusal 17 2 0
unfolding malformed items_of_bytes items_in take_item by_kind body2 body3 body5 go_on scan may_stand reached pick
two_undone = refl

pub check_first : malformed (7 ∷ 1 ∷ 0 ∷ 1 ∷ 1 ∷ 5 ∷ 6 ∷ 0 ∷ 0 ∷ []) ≡ refusal 17 1 0
unfolding malformed items_of_bytes items_in take_item by_kind body2 body3 body5 go_on scan may_stand reached pick
check_first = refl

-- a check's standing may be the limit, and no more
abbrev asked_after : ℕ → Asked
asked_after standing = record { standing = standing; row = 1; column = 1; digit = 5 }

pub at_limit : any_late (asked_after max_moves ∷ []) ≡ false
unfolding any_late either
at_limit = refl

pub past_limit : any_late (asked_after (suc max_moves) ∷ []) ≡ true
unfolding any_late either
past_limit = refl
