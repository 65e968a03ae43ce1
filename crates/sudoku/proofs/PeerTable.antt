-- The table of peers: a row of twenty entries for each cell, cell 1 first. Its rule is one test, which
-- antt computes over the whole table, and `table_peers` makes of it what stands for each cell.
-- Assumes nothing.
use Prim.Native.Nat.{ℕ, ◌-◌}
use mathlib.Core.Path.{◌≡◌, refl, sym, ◌∙◌}
use mathlib.Core.Bool.{Bool, true, false}
use mathlib.Core.List.{List, [], ◌∷◌}
use native.Mathlib.Omega.{arith}
use borrow.Author.Tests.{eqb-true}
use lib.Dec.{eqb}
use lib.ListN.{get_or}
use Rattle.sudoku.specs.Tests.{both, every, among}
use Rattle.sudoku.specs.Grid.{is_cell, are_peers, peers_of}
use Rattle.sudoku.proofs.Walks.{both_left, both_right, every_at, not_both_ways}
use Rattle.sudoku.proofs.Grid.{cell_from, cell_to, peers_on}

-- whether two lists are equal
unfoldable pub same : List ℕ → List ℕ → Bool
same [] [] = true
same [] (y ∷ ys) = false
same (x ∷ xs) [] = false
same (x ∷ xs) (y ∷ ys) = both (eqb x y) (same xs ys)

pub same_eq : (l m : List ℕ) → same l m ≡ true → l ≡ m
unfolding same
same_eq [] [] p = refl
same_eq [] (y ∷ ys) p = absurd (not_both_ways false p refl)
same_eq (x ∷ xs) [] p = absurd (not_both_ways false p refl)
same_eq (x ∷ xs) (y ∷ ys) p =
    λ j. eqb-true x y (both_left (eqb x y) (same xs ys) p) j ∷ same_eq xs ys (both_right (eqb x y) (same xs ys) p) j

-- the table's rule at a cell: its entries are the cells that are its peers, in order
unfoldable pub rule : List (List ℕ) → ℕ → Bool
rule table cell = same (get_or table (cell - 1) []) (among (are_peers cell) 81 1)

-- a table that passes the rule at all 81 cells has the peers of each
pub table_peers : (table : List (List ℕ)) (cell : ℕ) → every (rule table) 81 1 ≡ true → is_cell cell ≡ true
    → get_or table (cell - 1) [] ≡ peers_of cell
unfolding rule
table_peers table cell p h =
    same_eq (get_or table (cell - 1) []) (among (are_peers cell) 81 1) (every_at (rule table) 81 1 cell p (cell_from cell h) (omega (arith, cell_to cell h)))
    ∙ sym (peers_on cell h)
