-- A text that is 81 cells is one that a grid is read from.
-- Assumes nothing.
use Prim.Native.Nat.{ℕ}
use mathlib.Core.Path.{◌≡◌, refl}
use mathlib.Core.Bool.{Bool, true, false}
use mathlib.Core.List.{List}
use native.Mathlib.Omega.{arith}
use borrow.Author.Tests.{eqb-true, ltb-true}
use lib.Dec.{eqb, ltb}
use Rattle.std.specs.Prelude.{Some, None, Ok, Err, is_some}
use Rattle.std.specs.Result.{result_ok}
use Rattle.sudoku.specs.Tests.{pick, both}
use Rattle.texts.specs.Grids.{cells_of, judged, grid_of}
use Rattle.texts.specs.declared.CellsError.TheVariants.{Wrong, Many, Few}
use Rattle.files.specs.Disk.{is_whole, whole_cells}

by_judging : {A E : Type 0} (right few whole : Bool) (x : A) (wrong less more : E) → (few ≡ true → whole ≡ true → ⊥) → result_ok (pick right (pick few (Err less) (pick whole (Ok x) (Err more))) (Err wrong)) ≡ pick (both right whole) (Some x) None
unfolding pick both
by_judging true true true x wrong less more h = absurd (h refl refl)
by_judging true true false x wrong less more h = refl
by_judging true false true x wrong less more h = refl
by_judging true false false x wrong less more h = refl
by_judging false few whole x wrong less more h = refl

pub grid_is_whole : (text : List ℕ) → result_ok (grid_of text) ≡ whole_cells text
unfolding grid_of judged whole_cells is_whole
grid_is_whole text =
    let s = cells_of text in
    by_judging (eqb s.wrong 0) (ltb s.count 81) (eqb s.count 81) s.cells (Wrong s.wrong s.count) (Few s.count) Many
    (λ l e. let a = ltb-true s.count 81 l in let b = eqb-true s.count 81 e in omega arith)

some_where : {A : Type 0} (t : Bool) (x : A) → is_some (pick t (Some x) None) ≡ t
unfolding pick
some_where true x = refl
some_where false x = refl

pub some_is_whole : (text : List ℕ) → is_some (whole_cells text) ≡ is_whole (cells_of text)
unfolding whole_cells
some_is_whole text = some_where (is_whole (cells_of text)) (cells_of text).cells
