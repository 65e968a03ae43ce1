-- Givens of document 01 (proof.rs): triples (row, column, digit), strictly ascending in that order.
-- Assumes nothing.
use Rattle.std.specs.Prelude.{ℕ, zero, suc, Bool, true, not, List, [], ◌∷◌, ltb, eqb, replicate}
use Rattle.sudoku.specs.Tests.{both, either, keep}
use Rattle.sudoku.specs.Grid.{cell_of, row_of, column_of, at, put}
use Rattle.puzzle.specs.declared.Given.{Given}

abbrev pub given : ℕ → ℕ → ℕ → Given
given row column digit = record { row = row; column = column; digit = digit }

-- the givens that a list of bytes holds, three bytes each
unfoldable pub triples : List ℕ → List Given
triples [] = []
triples (row ∷ []) = []
triples (row ∷ column ∷ []) = []
triples (row ∷ column ∷ digit ∷ bytes) = given row column digit ∷ triples bytes

-- and the bytes that hold givens
unfoldable pub triple_bytes : List Given → List ℕ
triple_bytes [] = []
triple_bytes (g ∷ gs) = g.row ∷ g.column ∷ g.digit ∷ triple_bytes gs

-- g stands strictly before h in the order of row, column, digit
unfoldable pub precedes : Given → Given → Bool
precedes g h =
    either (ltb g.row h.row)
    (both (eqb g.row h.row)
    (either (ltb g.column h.column) (both (eqb g.column h.column) (ltb g.digit h.digit))))

-- g and those after it ascend strictly
unfoldable pub ascend_from : Given → List Given → Bool
ascend_from g [] = true
ascend_from g (h ∷ gs) = both (precedes g h) (ascend_from h gs)

unfoldable pub ascending : List Given → Bool
ascending [] = true
ascending (g ∷ gs) = ascend_from g gs

-- the 81 digits with each given's digit put at its cell, in order
unfoldable pub put_givens : List ℕ → List Given → List ℕ
put_givens digits [] = digits
put_givens digits (g ∷ gs) = put_givens (put digits (cell_of g.row g.column) g.digit) gs

-- which of the 81 cells hold a given: flags are bytes, 1 for yes and 0 for no
unfoldable pub mark_givens : List ℕ → List Given → List ℕ
mark_givens flags [] = flags
mark_givens flags (g ∷ gs) = mark_givens (put flags (cell_of g.row g.column) 1) gs

-- the digits of a fresh board: the givens', 0 (none) elsewhere
unfoldable pub digits_of : List Given → List ℕ
digits_of gs = put_givens (replicate 81 0) gs

unfoldable pub given_cells : List Given → List ℕ
given_cells gs = mark_givens (replicate 81 0) gs

-- what a flag says, and the flag of a cell
abbrev pub is_on : ℕ → Bool
is_on flag = not (eqb flag 0)

unfoldable pub is_given : List ℕ → ℕ → Bool
is_given flags cell = is_on (at flags cell)

-- of the n cells from `cell` on, in their order, those at which t holds, as givens with the digits of d
unfoldable pub givens_by : (ℕ → Bool) → (ℕ → ℕ) → ℕ → ℕ → List Given
givens_by t d zero cell = []
givens_by t d (suc n) cell = keep (t cell) (given (row_of cell) (column_of cell) (d cell)) (givens_by t d n (suc cell))
