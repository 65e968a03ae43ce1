-- The record's items of document 01 (record.rs), and their bytes.
-- Each item is one byte of kind, then its body: 1 given and 2 place, 4
-- write mark, 5 strike mark (row, column, digit); 3 erase (row, column);
-- 6 undone (two bytes, low first); 7 check (standing, two, low first; row, column, digit).
-- Assumes nothing.
use Rattle.std.specs.Prelude.{ℕ, List, [], ◌∷◌, ◌++◌, map}
use Rattle.puzzle.specs.declared.Given.{Given as Setters}
use Rattle.journal.specs.declared.Move.{Move}
use Rattle.journal.specs.declared.Move.TheVariants.{Place, Erase, WriteMark, StrikeMark}
use Rattle.journal.specs.Kinds.{given_kind, place_kind, erase_kind, write_kind, strike_kind, undone_kind, check_kind}
use Rattle.journal.specs.Bytes.{low, second}
use Rattle.record.specs.declared.Item.{Item}
use Rattle.record.specs.declared.Item.TheVariants.{Given, Played, Undone, Check}
use Rattle.journal.specs.declared.Asked.{Asked}

-- the bytes of one item
unfoldable pub encode : Item → List ℕ
encode (Given g) = given_kind ∷ g.row ∷ g.column ∷ g.digit ∷ []
encode (Played (Place row column digit)) = place_kind ∷ row ∷ column ∷ digit ∷ []
encode (Played (Erase row column)) = erase_kind ∷ row ∷ column ∷ []
encode (Played (WriteMark row column digit)) = write_kind ∷ row ∷ column ∷ digit ∷ []
encode (Played (StrikeMark row column digit)) = strike_kind ∷ row ∷ column ∷ digit ∷ []
encode (Undone n) = undone_kind ∷ low n ∷ second n ∷ []
encode (Check c) = check_kind ∷ low c.standing ∷ second c.standing ∷ c.row ∷ c.column ∷ c.digit ∷ []

-- the bytes of items, one after the other
unfoldable pub encode_all : List Item → List ℕ
encode_all [] = []
encode_all (i ∷ is) = encode i ++ encode_all is

-- what a record holds: givens, moves, how many of them are undone (made less standing), checks
pub record Parts : Type 0 where
  pub givens : List Setters
  pub moves : List Move
  pub undone : ℕ
  pub checks : List Asked

unfoldable pub given_item : Setters → Item
given_item g = Given g

unfoldable pub check_item : Asked → Item
check_item c = Check c

-- order: givens, moves, exactly one 6, checks
unfoldable pub items_of : Parts → List Item
items_of p = map given_item p.givens ++ map Played p.moves ++ Undone p.undone ∷ map check_item p.checks

-- the record of these parts
unfoldable pub record_of : Parts → List ℕ
record_of p = encode_all (items_of p)
