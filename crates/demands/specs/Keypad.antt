-- The keypad of document 02, point 2, the statement: in every list of digits and for every digit, at most nine cells
-- hold it and conflict with no peer, so that nine less those cells is cut off nowhere; a key is grey, none being left,
-- exactly where each row, column and box holds its digit once, and all nine are exactly on a solved board; and what a
-- player sees who puts a digit into an empty cell. The proof stands elsewhere. Assumes nothing.
use Rattle.std.specs.Prelude.{ℕ, ◌+◌, ◌≤◌, ◌≡◌, ◌↔◌, true, not, List, [], ◌∷◌, length, eqb, replicate}
use Rattle.sudoku.specs.Tests.{pick, both, bit, count, listed}
use Rattle.sudoku.specs.Grid.{in_range, is_cell, row_of, column_of, are_peers, peers_of, at, put}
use Rattle.puzzle.specs.Puzzle.{is_held, stands_clear, clear_cells, digits_left, keypad}
use Rattle.puzzle.specs.EachOnce.{Kind, times_held, EachOnce}
use Rattle.calls.specs.Session.{Session}
use Rattle.demands.specs.Demand3.{Reached}
use Rattle.demands.specs.Positions.{digit_g, solution_g}

-- the peers of a cell that count for key d
unfoldable pub clear_peers : List ℕ → ℕ → ℕ → ℕ
clear_peers digits d cell = count (λ peer. both (are_peers cell peer) (stands_clear digits d peer)) 81 1

-- ---- grids, computed

unfoldable pub no_digits : List ℕ
no_digits = replicate 81 0

-- the nine fives of solution G alone
unfoldable pub fives_g : List ℕ
fives_g = listed (λ cell. pick (eqb (digit_g (row_of cell) (column_of cell)) 5) 5 0) 81 1

-- that of row 9 in row 1 instead, beside the one that stands there
unfoldable pub two_in_a_row : List ℕ
two_in_a_row = put (put fives_g 78 0) 6 5

pub record KeypadRows : Type 0 where
  pub nothing : keypad no_digits ≡ replicate 9 9
  pub one : keypad (put no_digits 1 5) ≡ 9 ∷ 9 ∷ 9 ∷ 9 ∷ 8 ∷ 9 ∷ 9 ∷ 9 ∷ 9 ∷ []
  pub solved : keypad solution_g ≡ replicate 9 0
  -- nine fives: none is left where no two share a unit, and two where two do, of which neither counts
  pub nine : digits_left fives_g 5 ≡ 0
  pub nine_with_a_clash : digits_left two_in_a_row 5 ≡ 2
  -- a five beside the only one, and one that clashes with two of two, in its row and in its box
  pub beside : digits_left (put (put no_digits 1 5) 2 5) 5 ≡ 9
  pub two_at_once : digits_left (put (put (put no_digits 9 5) 20 5) 1 5) 5 ≡ 9
  -- a third beside two that clash already: as many are left as before
  pub third : digits_left (put (put (put no_digits 1 5) 2 5) 3 5) 5 ≡ 9
  -- key 0 counts no empty cell
  pub key_0 : digits_left no_digits 0 ≡ 9

pub record KeypadTheorem : Type 0 where
  pub at_most_nine : (digits : List ℕ) (d : ℕ) → clear_cells digits d ≤ 9
  -- a subtraction that was cut off at 0 would not give nine back
  pub exact : (digits : List ℕ) (d : ℕ) → digits_left digits d + clear_cells digits d ≡ 9
  pub grey :
      (digits : List ℕ) (d : ℕ)
      → in_range d ≡ true
      → (digits_left digits d ≡ 0) ↔ ((kind : Kind) (number : ℕ) → in_range number ≡ true → times_held digits kind number d ≡ 1)
  -- so all nine are where each unit holds each digit once; and, of boards that calls reach, on the solved ones
  pub all_grey : (digits : List ℕ) → (keypad digits ≡ replicate 9 0) ↔ EachOnce digits
  pub solved : (s : Session) → Reached s → (s.board.solved ≡ 1) ↔ (keypad s.board.digits ≡ replicate 9 0)
  -- a digit put into an empty cell, its own key: one less is left where no peer holds it; else it does not count, and
  -- the peers that counted do so no more, so that as many more are left. Read backwards, what emptying the cell does
  pub own :
      (digits : List ℕ) (cell d : ℕ)
      → length digits ≡ 81
      → is_cell cell ≡ true
      → at digits cell ≡ 0
      → in_range d ≡ true
      → digits_left (put digits cell d) d + bit (not (is_held digits d (peers_of cell))) ≡ digits_left digits d + clear_peers digits d cell
  -- and every other key: as many are left as before
  pub other :
      (digits : List ℕ) (cell d e : ℕ)
      → length digits ≡ 81
      → is_cell cell ≡ true
      → at digits cell ≡ 0
      → (e ≡ d → ⊥)
      → digits_left (put digits cell d) e ≡ digits_left digits e
  pub rows : KeypadRows
