-- Lines there and back: the givens of a line ascend; a board's line is a line, and its givens are the board's; and a
-- board whose givens are a line's has that line, each 0 a full stop and its line feed gone.
-- Assumes nothing.
use Prim.Native.Nat.{ℕ, zero, suc, ◌+◌, ◌-◌, ◌≤◌}
use mathlib.Core.Path.{◌≡◌, refl, sym, ap, ◌∙◌}
use mathlib.Core.Bool.{Bool, true, false}
use mathlib.Core.List.{List, [], ◌∷◌, map}
use native.Mathlib.Nat.{le_of_suc-le-suc, zero-add}
use native.Mathlib.Omega.{arith}
use borrow.Author.Tests.{leb-true, le-leb, eqb-true, eqb-false, eq-eqb, ne_eqb, le-ltb, not-true, not-false}
use lib.Dec.{leb, ltb, eqb}
use lib.ListN.{length, get_or, take}
use Rattle.sudoku.specs.Tests.{pick, both, listed}
use Rattle.sudoku.specs.Grid.{in_range, at}
use Rattle.sudoku.proofs.Walks.{by_test, not_both_ways, pick_true, pick_false, both_true, both_left, both_right, either_left, every_at}
use Rattle.sudoku.proofs.Listed.{length_listed, listed_at, listed_agree, listed_shift}
use Rattle.sudoku.proofs.Grid.{in_range_lem, range_to, range_zero}
use Rattle.puzzle.specs.declared.Given.{Given}
use Rattle.puzzle.specs.Refusals.{refusal, accepted, is_accepted}
use Rattle.puzzle.specs.Givens.{is_on, is_given, ascending}
use Rattle.puzzle.specs.Text.{cell_value}
use Rattle.puzzle.proofs.Accepted.{accepts, if_not, if_passed, first_of, or_else_left}
use Rattle.puzzle.proofs.Givens.{marked, digit_for}
use Rattle.puzzle.proofs.GivensBy.{by_same, by_ascends, by_marked, by_digit}
use Rattle.board.specs.declared.Board.{Board}
use Rattle.board.specs.Board.{is_board, may_stand, digit_value}
use Rattle.record.specs.Write.{givens_of}
use Rattle.lines.specs.Lines.{line_bytes, is_line, value_at, other_sort, line_refusal, line_givens, character_at, line_of, dotted, dotted_line}
use Rattle.lines.proofs.Reading.{long_line, a_line, value_small}
use Rattle.board.proofs.Values.{board_digits}

-- ---- the givens of a line ascend

pub line_ascends : (line : List ℕ) → ascending (line_givens line) ≡ true
unfolding line_givens
line_ascends line = by_ascends (λ cell. in_range (value_at line cell)) (value_at line) 81 0 (omega arith)

-- a line has 81 characters
long : (line : List ℕ) → is_accepted (line_refusal line) ≡ true → 81 ≤ length line
unfolding line_refusal is_accepted
long line h = long_line line (not-false _ (if_passed _ (refusal 36 0 0) refl (or_else_left _ _ h)))

-- and so has a board's; each is that of its cell
line_at : (b : Board) (cell : ℕ) → 1 ≤ cell → cell ≤ 81 → at (line_of b) cell ≡ character_at b.given b.digits cell
unfolding line_of at
line_at b cell l u =
    listed_at (character_at b.given b.digits) 81 1 (cell - 1) 0 (omega arith)
    ∙ ap (character_at b.given b.digits) {x = 1 + (cell - 1)} {y = cell} (omega arith)

-- ---- one character

-- of a digit, and of a full stop
value_of_digit : (d : ℕ) → d ≤ 9 → cell_value (48 + d) ≡ d
unfolding cell_value
value_of_digit d h =
    pick_false _ _ _ (ne_eqb (48 + d) 46 (λ e. omega (arith, e)))
    ∙ pick_true _ _ _ (both_true _ _ (le-leb 48 (48 + d) (omega arith)) (le-leb (48 + d) 57 (omega arith)))
    ∙ omega arith

value_of_stop : cell_value 46 ≡ 0
unfolding cell_value pick
value_of_stop = refl

of_figure : (byte : ℕ) → eqb byte 46 ≡ false → both (leb 48 byte) (leb byte 57) ≡ true → cell_value byte ≡ byte - 48
unfolding cell_value
of_figure byte t q = pick_false _ _ _ t ∙ pick_true _ _ _ q

of_other : (byte : ℕ) → eqb byte 46 ≡ false → both (leb 48 byte) (leb byte 57) ≡ false → cell_value byte ≡ 10
unfolding cell_value
of_other byte t q = pick_false _ _ _ t ∙ pick_false _ _ _ q

-- what a character says, written again: itself, or a full stop for 0
written_again : (byte : ℕ) → cell_value byte ≤ 9 → pick (in_range (cell_value byte)) (48 + cell_value byte) 46 ≡ dotted byte
unfolding dotted
written_again byte h =
    by_test (eqb byte 46) stop (λ t. by_test (both (leb 48 byte) (leb byte 57)) (digit t) (other t))
  where
    Same : Type 0
    Same = pick (in_range (cell_value byte)) (48 + cell_value byte) 46 ≡ pick (eqb byte 48) 46 byte

    blank : cell_value byte ≡ 0 → pick (in_range (cell_value byte)) (48 + cell_value byte) 46 ≡ 46
    blank z = pick_false _ _ _ (ap in_range z ∙ range_zero)

    stop : eqb byte 46 ≡ true → Same
    stop t =
        let e : byte ≡ 46 = eqb-true byte 46 t in
        blank (ap cell_value e ∙ value_of_stop) ∙ sym (pick_false (eqb byte 48) 46 byte (ne_eqb byte 48 (λ z. omega arith)) ∙ e)

    digit : eqb byte 46 ≡ false → both (leb 48 byte) (leb byte 57) ≡ true → Same
    digit t q =
        let from : 48 ≤ byte = leb-true 48 byte (both_left _ _ q) in
        let to : byte ≤ 57 = leb-true byte 57 (both_right (leb 48 byte) _ q) in
        let v : cell_value byte ≡ byte - 48 = of_figure byte t q in
        by_test (eqb byte 48)
        (λ z. blank (omega (arith, v, eqb-true byte 48 z)) ∙ sym (pick_true (eqb byte 48) 46 byte z))
        (λ z.
        let n = eqb-false byte 48 z in
        pick_true _ _ _ (in_range_lem (cell_value byte) (omega (arith, v, n)) (omega (arith, v)))
        ∙ omega (arith, v)
        ∙ sym (pick_false (eqb byte 48) 46 byte z))

    other : eqb byte 46 ≡ false → both (leb 48 byte) (leb byte 57) ≡ false → Same
    other t q = absurd (omega (arith, h, of_other byte t q))

-- what the character of a cell says: the digit of a given, and nothing of any other cell
module _ (g : Bool) (d : ℕ) (is : g ≡ true → in_range d ≡ true) where
  said : (blank : ℕ) → cell_value blank ≡ 0 → cell_value (pick g (48 + d) blank) ≡ pick g d 0
  said blank z =
      by_test g
      (λ t. ap cell_value (pick_true g _ _ t) ∙ value_of_digit d (range_to d (is t)) ∙ sym (pick_true g d 0 t))
      (λ t. ap cell_value (pick_false g _ _ t) ∙ z ∙ sym (pick_false g d 0 t))

  said_small : pick g d 0 ≤ 9
  said_small = by_test g (λ t. omega (arith, pick_true g d 0 t, range_to d (is t))) (λ t. omega (arith, pick_false g d 0 t))

  said_range : in_range (pick g d 0) ≡ g
  said_range =
      by_test g (λ t. ap in_range (pick_true g d 0 t) ∙ is t ∙ sym t) (λ t. ap in_range (pick_false g d 0 t) ∙ range_zero ∙ sym t)

-- ---- a board's line, read

module _ (b : Board) (t : is_board b ≡ true) where
  -- a given has a digit 1 to 9
  given_digit : (cell : ℕ) → 1 ≤ cell → cell ≤ 81 → is_given b.given cell ≡ true → in_range (at b.digits cell) ≡ true
  unfolding digit_value may_stand is_given
  given_digit cell l u g =
      let value = every_at (digit_value b.digits b.given) 81 1 cell (board_digits b t) l (omega arith) in
      let free = both_right (leb (at b.given cell) 1) _ (both_right (leb (at b.digits cell) 9) _ value) in
      in_range_lem (at b.digits cell)
      (by_test (eqb (at b.digits cell) 0)
      (λ z. absurd (not_both_ways (both (is_on (at b.given cell)) (eqb (at b.digits cell) 0)) (both_true _ _ g z) (not-true _ free)))
      (λ z. omega (arith, eqb-false (at b.digits cell) 0 z)))
      (leb-true (at b.digits cell) 9 (both_left _ _ value))

  -- what the character of a cell says
  abbrev said_at : ℕ → ℕ
  said_at cell = pick (is_given b.given cell) (at b.digits cell) 0

  character_said : (cell : ℕ) → 1 ≤ cell → cell ≤ 81 → value_at (line_of b) cell ≡ said_at cell
  unfolding value_at character_at cell_value both pick
  character_said cell l u = ap cell_value (line_at b cell l u) ∙ said (is_given b.given cell) (at b.digits cell) (given_digit cell l u) _ refl

  pub line_read : line_refusal (line_of b) ≡ accepted
  unfolding is_line line_of other_sort
  line_read =
      a_line (line_of b) (either_left _ _ (eq-eqb (length (line_of b)) line_bytes (length_listed (character_at b.given b.digits) 81 1)))
      ∙ first_of (other_sort (line_of b)) 81 1
      (λ cell l u.
      accepts _
      (if_not _ (refusal 37 cell 0)
      (ap (ltb 9) (character_said cell l (omega arith))
      ∙ le-ltb 9 (said_at cell) (said_small (is_given b.given cell) (at b.digits cell) (given_digit cell l (omega arith))))))

  pub same_givens : line_givens (line_of b) ≡ givens_of b
  unfolding line_givens givens_of
  same_givens =
      by_same (λ cell. in_range (value_at (line_of b) cell)) (is_given b.given) (value_at (line_of b)) (at b.digits) 81 1
      (λ k l u. range k l (omega arith))
      (λ k l u q.
      character_said k l (omega arith) ∙ pick_true _ _ _ (sym (range k l (omega arith)) ∙ q))
    where
      range : (k : ℕ) → 1 ≤ k → k ≤ 81 → in_range (value_at (line_of b) k) ≡ is_given b.given k
      range k l u = ap in_range (character_said k l u) ∙ said_range (is_given b.given k) (at b.digits k) (given_digit k l u)

-- ---- a line's givens, written

-- a list changed entry by entry is the walk over its entries
map_walk : (f : ℕ → ℕ) (l : List ℕ) (n : ℕ) → n ≤ length l → map f (take n l) ≡ listed (λ k. f (get_or l k 0)) n 0
unfolding listed
map_walk f l zero h = refl
map_walk f [] (suc n) h = absurd (omega arith)
map_walk f (x ∷ l) (suc n) h =
    ap (λ (rest : List ℕ). f x ∷ rest)
    (map_walk f l n (le_of_suc-le-suc h) ∙ listed_shift (λ k. f (get_or l k 0)) (λ k. f (get_or (x ∷ l) k 0)) n 0 1 (λ k. ap (λ (i : ℕ). f (get_or l i 0)) (zero-add k) ∙ ap (λ (i : ℕ). f (get_or (x ∷ l) i 0)) {x = suc k} {y = 1 + k} (omega arith)))

module _ (line : List ℕ) (t : is_accepted (line_refusal line) ≡ true) (b : Board) (same : givens_of b ≡ line_givens line) where
  module _ (cell : ℕ) (l : 1 ≤ cell) (u : cell ≤ 81) where
    marks : is_given b.given cell ≡ in_range (value_at line cell)
    unfolding givens_of line_givens
    marks =
        sym (by_marked (is_given b.given) (at b.digits) 81 0 cell (omega arith) l u)
        ∙ ap (λ (gs : List Given). marked gs cell) same
        ∙ by_marked (λ c. in_range (value_at line c)) (value_at line) 81 0 cell (omega arith) l u

    digits : is_given b.given cell ≡ true → at b.digits cell ≡ value_at line cell
    unfolding givens_of line_givens
    digits g =
        sym (by_digit (is_given b.given) (at b.digits) 81 0 cell (omega arith) l u g)
        ∙ ap (λ (gs : List Given). digit_for gs cell) same
        ∙ by_digit (λ c. in_range (value_at line c)) (value_at line) 81 0 cell (omega arith) l u (sym marks ∙ g)

    -- the character of the board's line is that of the line, dotted
    pub same_character : character_at b.given b.digits cell ≡ dotted (at line cell)
    unfolding character_at value_at
    same_character =
        by_test (is_given b.given cell)
        (λ g. pick_true _ _ _ g ∙ ap (λ (d : ℕ). 48 + d) (digits g) ∙ sym (pick_true (in_range (value_at line cell)) _ _ (sym marks ∙ g)))
        (λ g. pick_false _ _ _ g ∙ sym (pick_false (in_range (value_at line cell)) _ _ (sym marks ∙ g)))
        ∙ written_again (at line cell) (value_small line cell t l u)

  pub line_again : line_of b ≡ dotted_line line
  unfolding line_of dotted_line at
  line_again =
      listed_agree (character_at b.given b.digits) (λ k. dotted (get_or line k 0)) 81 1 0
      (λ k u. same_character (1 + k) (omega arith) (omega arith) ∙ ap (λ (i : ℕ). dotted (get_or line i 0)) {x = 1 + k - 1} {y = 0 + k} (omega arith))
      ∙ sym (map_walk dotted line 81 (long line t))
