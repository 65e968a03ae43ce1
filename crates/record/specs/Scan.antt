-- Reading a record's bytes of document 01: the items, number 17, and the parts that the items make.
-- Assumes nothing.
use Rattle.std.specs.Prelude.{ℕ, zero, suc, Bool, List, [], ◌∷◌, leb, eqb, length}
use Rattle.sudoku.specs.Tests.{pick}
use Rattle.puzzle.specs.declared.Refusal.{Refusal}
use Rattle.puzzle.specs.Refusals.{refusal, accepted}
use Rattle.puzzle.specs.Givens.{given}
use Rattle.journal.specs.declared.Move.TheVariants.{Place, Erase, WriteMark, StrikeMark}
use Rattle.journal.specs.declared.Asked.{Asked}
use Rattle.journal.specs.Bytes.{two}
use Rattle.record.specs.declared.Item.{Item}
use Rattle.record.specs.declared.Item.TheVariants.{Given, Played, Undone, Check}
use Rattle.record.specs.Items.{Parts}

-- what stands first in some bytes: an item and the bytes after it, or no whole item
pub data Taken : Type 0 where
  got : Item → List ℕ → Taken
  broken : Taken

-- a check with these four numbers
abbrev pub asked : ℕ → ℕ → ℕ → ℕ → Asked
asked standing row column digit = record { standing = standing; row = row; column = column; digit = digit }

-- a body of two, of three and of five bytes
unfoldable pub body2 : (ℕ → ℕ → Item) → List ℕ → Taken
body2 f [] = broken
body2 f (a ∷ []) = broken
body2 f (a ∷ b ∷ l) = got (f a b) l

unfoldable pub body3 : (ℕ → ℕ → ℕ → Item) → List ℕ → Taken
body3 f [] = broken
body3 f (a ∷ []) = broken
body3 f (a ∷ b ∷ []) = broken
body3 f (a ∷ b ∷ c ∷ l) = got (f a b c) l

unfoldable pub body5 : (ℕ → ℕ → ℕ → ℕ → ℕ → Item) → List ℕ → Taken
body5 f [] = broken
body5 f (a ∷ []) = broken
body5 f (a ∷ b ∷ []) = broken
body5 f (a ∷ b ∷ c ∷ []) = broken
body5 f (a ∷ b ∷ c ∷ d ∷ []) = broken
body5 f (a ∷ b ∷ c ∷ d ∷ e ∷ l) = got (f a b c d e) l

-- one of seven by the kind byte; kinds 0 and 8 to 255 are malformed
unfoldable pub by_kind : {A : Type 0} → ℕ → A → A → A → A → A → A → A → A → A
by_kind kind a1 a2 a3 a4 a5 a6 a7 malformed =
    pick (eqb kind 1) a1
    (pick (eqb kind 2) a2
    (pick (eqb kind 3) a3
    (pick (eqb kind 4) a4 (pick (eqb kind 5) a5 (pick (eqb kind 6) a6 (pick (eqb kind 7) a7 malformed))))))

-- the item of a kind byte and the bytes after it
unfoldable pub take_item : ℕ → List ℕ → Taken
take_item kind bytes =
    by_kind kind (body3 (λ row column digit. Given (given row column digit)) bytes)
    (body3 (λ row column digit. Played (Place row column digit)) bytes)
    (body2 (λ row column. Played (Erase row column)) bytes)
    (body3 (λ row column digit. Played (WriteMark row column digit)) bytes)
    (body3 (λ row column digit. Played (StrikeMark row column digit)) bytes)
    (body2 (λ a b. Undone (two a b)) bytes)
    (body5 (λ a b row column digit. Check (asked (two a b) row column digit)) bytes)
    broken

-- the items of some bytes, to their end or to what is no item or is cut short
pub data Items : Type 0 where
  ended : Items
  cut : Items
  then : Item → Items → Items

unfoldable pub go_on : Taken → (List ℕ → Items) → Items
go_on (got i bytes) f = then i (f bytes)
go_on broken f = cut

-- `fuel` bounds the number of items
unfoldable pub items_in : ℕ → List ℕ → Items
items_in zero [] = ended
items_in zero (kind ∷ bytes) = cut
items_in (suc fuel) [] = ended
items_in (suc fuel) (kind ∷ bytes) = go_on (take_item kind bytes) (items_in fuel)

-- an item takes at least a byte, so a record has no more items than bytes
unfoldable pub items_of_bytes : List ℕ → Items
items_of_bytes bytes = items_in (length bytes) bytes

-- how far the record has come: 0 among the givens, 1 among the moves, 2 after the undone count.
-- The group that an item belongs to, and how far the record is after it
unfoldable pub reached : Item → ℕ
reached (Given g) = 0
reached (Played m) = 1
reached (Undone n) = 2
reached (Check c) = 2

-- order: givens, moves, exactly one 6, checks
unfoldable pub may_stand : ℕ → Item → Bool
may_stand phase (Given g) = eqb phase 0
may_stand phase (Played m) = leb phase 1
may_stand phase (Undone n) = leb phase 1
may_stand phase (Check c) = eqb phase 2

-- 17 Record malformed: place being the first item that can't stand there or
-- is cut short, or items plus one where the bytes end and kind 6 is missing
unfoldable pub scan : ℕ → ℕ → Items → Refusal
scan phase n ended = pick (eqb phase 2) accepted (refusal 17 n 0)
scan phase n cut = refusal 17 n 0
scan phase n (then i is) = pick (may_stand phase i) (scan (reached i) (suc n) is) (refusal 17 n 0)

unfoldable pub malformed : List ℕ → Refusal
malformed bytes = scan 0 1 (items_of_bytes bytes)

-- the parts with one item more in front
unfoldable pub add : Item → Parts → Parts
add (Given g) p = record { givens = g ∷ p.givens; moves = p.moves; undone = p.undone; checks = p.checks }
add (Played m) p = record { givens = p.givens; moves = m ∷ p.moves; undone = p.undone; checks = p.checks }
add (Undone n) p = record { givens = p.givens; moves = p.moves; undone = n; checks = p.checks }
add (Check c) p = record { givens = p.givens; moves = p.moves; undone = p.undone; checks = c ∷ p.checks }

unfoldable pub no_parts : Parts
no_parts = record { givens = []; moves = []; undone = 0; checks = [] }

unfoldable pub parts_in : Items → Parts
parts_in ended = no_parts
parts_in cut = no_parts
parts_in (then i is) = add i (parts_in is)

-- what the bytes of a record hold
unfoldable pub parts_of_bytes : List ℕ → Parts
parts_of_bytes bytes = parts_in (items_of_bytes bytes)
