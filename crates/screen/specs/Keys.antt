-- The keypad: a line of 57 characters, that names each key with its digits left.
-- Assumes nothing.
use Rattle.std.specs.Prelude.{ℕ, ◌+◌, ◌-◌, ◌/◌, ◌%◌, List, [], ◌∷◌, ltb, eqb, get_or}
use Rattle.sudoku.specs.Tests.{pick, listed}
use Rattle.puzzle.specs.Puzzle.{digits_left}
use Rattle.screen.specs.Picture.{figure, blank, line_end}

-- "digits left"
unfoldable pub heading : List ℕ
heading = 100 ∷ 105 ∷ 103 ∷ 105 ∷ 116 ∷ 115 ∷ 32 ∷ 108 ∷ 101 ∷ 102 ∷ 116 ∷ []

-- two blanks, the key, a colon and the digits left for it
unfoldable pub key_part : List ℕ → ℕ → ℕ → ℕ
key_part digits key i =
    pick (eqb i 2) (figure key) (pick (eqb i 3) 58 (pick (eqb i 4) (figure (digits_left digits key)) blank))

unfoldable pub key_sign : List ℕ → ℕ → ℕ
key_sign digits n =
    pick (ltb n 11) (get_or heading n 0)
    (pick (eqb n 56) line_end (key_part digits ((n - 11) / 5 + 1) ((n - 11) % 5)))

unfoldable pub keypad_of : List ℕ → List ℕ
keypad_of digits = listed (key_sign digits) 57 0
