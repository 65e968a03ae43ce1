-- What reading a line tests, 34, 36 and 37, and what it answers; and that the digits of a line's cells, laid as givens,
-- are the line's givens.
-- Assumes nothing.
use Prim.Native.Nat.{ℕ, ◌+◌, ◌-◌, ◌≤◌, ◌<◌}
use mathlib.Core.Path.{◌≡◌, refl, sym, ap, ◌∙◌}
use mathlib.Core.Bool.{true, false, not}
use mathlib.Core.List.{List, [], ◌∷◌}
use native.Mathlib.Omega.{arith}
use borrow.Author.Tests.{eqb-true, eqb-false, lt-ltb, le-ltb, ltb-false}
use lib.Dec.{ltb, eqb}
use lib.ListN.{length, get_or}
use Rattle.sudoku.specs.Tests.{listed}
use Rattle.sudoku.specs.Grid.{in_range, at}
use Rattle.sudoku.proofs.Walks.{by_test, not_is_true, not_is_false, either_cases, both_left}
use Rattle.sudoku.proofs.Listed.{listed_at, listed_shift}
use Rattle.sudoku.proofs.Grid.{in_range_lem, range_zero}
use Rattle.puzzle.specs.declared.Refusal.{Refusal}
use Rattle.puzzle.specs.declared.Given.{Given}
use Rattle.puzzle.specs.Refusals.{refusal, accepted, is_accepted, refused_if, first_refused}
use Rattle.puzzle.specs.Givens.{triple_bytes}
use Rattle.puzzle.specs.Puzzle.{holds_digit}
use Rattle.puzzle.specs.Text.{cell_value}
use Rattle.puzzle.proofs.Accepted.{if_not, if_passed, first_at, or_else_right}
use Rattle.puzzle.proofs.Refusals.{refused_if_lem, or_else_by, or_else_past}
use Rattle.puzzle.proofs.GivensBy.{by_same, by_room, bytes_left, bytes_turn, bytes_none}
use Rattle.journal.specs.Bytes.{over}
use Rattle.record.specs.Write.{wrote}
use Rattle.record.proofs.Laying.{Walk}
use Rattle.record.proofs.Writing.{wrote_bytes}
use Rattle.lines.specs.Lines.{line_bytes, givens_room, is_line, value_at, other_sort, line_refusal, values_of, line_givens, digits_bytes, read_refusal, read_line_of}
use Rattle.lines.specs.Code.Triples.{given_bytes}

-- ---- 36 and 37

-- character n stands at n less one
module _ (line : List ℕ) (n v : ℕ) (e : v ≡ cell_value (get_or line (n - 1) 0)) where
  value_here : value_at line n ≡ v
  unfolding value_at at
  value_here = sym e

  pub other_here : 9 < v → other_sort line n ≡ refusal 37 n 0
  unfolding other_sort
  other_here h = refused_if_lem _ (refusal 37 n 0) (ap (ltb 9) value_here ∙ lt-ltb 9 v h)

  pub other_none : v ≤ 9 → other_sort line n ≡ accepted
  unfolding other_sort
  other_none h = if_not _ (refusal 37 n 0) (ap (ltb 9) value_here ∙ le-ltb 9 v h)

module _ (line : List ℕ) where
  -- what stands at i
  abbrev pub entry : ℕ → ℕ
  entry i = cell_value (get_or line i 0)

  pub entries : listed entry 81 0 ≡ values_of line
  unfolding values_of value_at at
  entries = listed_shift entry (value_at line) 81 0 1 (λ k. ap entry {x = 0 + k} {y = 1 + k - 1} (omega arith))

  pub long_line : is_line line ≡ true → line_bytes ≤ length line
  unfolding is_line
  long_line t =
      either_cases _ _ t
      (λ e. omega (arith, eqb-true (length line) line_bytes e))
      (λ e. omega (arith, eqb-true (length line) (line_bytes + 1) (both_left _ _ e)))

  pub no_line : is_line line ≡ false → line_refusal line ≡ refusal 36 0 0
  unfolding line_refusal
  no_line t = or_else_by _ _ (refusal 36 0 0) (refused_if_lem _ (refusal 36 0 0) (not_is_true _ t)) (eqb-false 36 0 refl)

  pub a_line : is_line line ≡ true → line_refusal line ≡ first_refused (other_sort line) 81 1
  unfolding line_refusal
  a_line t = or_else_past _ _ (if_not _ (refusal 36 0 0) (not_is_false _ t))

-- ---- the digits of the cells, laid as givens

-- what a cell of the list is
pub values_at : (line : List ℕ) (cell : ℕ) → 1 ≤ cell → cell ≤ 81 → at (values_of line) cell ≡ value_at line cell
unfolding at values_of
values_at line cell l u = listed_at (value_at line) 81 1 (cell - 1) 0 (omega arith) ∙ ap (value_at line) (omega arith)

-- no character of a line is of another sort
pub value_small : (line : List ℕ) (cell : ℕ) → is_accepted (line_refusal line) ≡ true → 1 ≤ cell → cell ≤ 81 → value_at line cell ≤ 9
unfolding line_refusal other_sort is_accepted
value_small line cell h l u =
    let all = or_else_right (refused_if (not (is_line line)) (refusal 36 0 0)) _ h in
    ltb-false 9 (value_at line cell) (if_passed _ (refusal 37 cell 0) refl (first_at (other_sort line) 81 1 all cell l (omega arith)))

-- so that it says a digit exactly where it is not a blank
holds_in_range : (v : ℕ) → v ≤ 9 → not (eqb v 0) ≡ in_range v
holds_in_range v h =
    by_test (eqb v 0)
    (λ t. ap not t ∙ sym (zero_out (eqb-true v 0 t)))
    (λ t. ap not t ∙ sym (in_range_lem v (omega (arith, eqb-false v 0 t)) h))
  where
    zero_out : v ≡ 0 → in_range v ≡ false
    zero_out e = ap in_range e ∙ range_zero

pub digits_of_line : (line : List ℕ) → is_accepted (line_refusal line) ≡ true → digits_bytes (values_of line) ≡ triple_bytes (line_givens line)
unfolding digits_bytes line_givens holds_digit
digits_of_line line h =
    ap triple_bytes
    (by_same (λ cell. not (eqb (at (values_of line) cell) 0)) (λ cell. in_range (value_at line cell)) (at (values_of line)) (value_at line) 81 1
    (λ k l u. ap (λ (v : ℕ). not (eqb v 0)) (values_at line k l (omega arith)) ∙ holds_in_range _ (value_small line k h l (omega arith)))
    (λ k l u q. values_at line k l (omega arith)))

module _ (digits : List ℕ) where
  -- 243 bytes are room for all of them
  pub digits_room : length (digits_bytes digits) ≤ givens_room
  unfolding digits_bytes
  digits_room = by_room (holds_digit digits) (at digits)

  -- what is left to lay from a cell on
  unfoldable pub digits_left : ℕ → List ℕ
  digits_left cell = bytes_left triple_bytes (holds_digit digits) (at digits) cell

  abbrev triple : Given → List ℕ
  triple g = g.row ∷ g.column ∷ g.digit ∷ []

  pub digits_walk : Walk digits_left (given_bytes digits) 82
  unfolding digits_left given_bytes triple_bytes
  digits_walk =
      record {
        turn = bytes_turn triple_bytes triple refl (λ g gs. refl) (holds_digit digits) (at digits);
        none = bytes_none triple_bytes triple refl (λ g gs. refl) (holds_digit digits) (at digits);
      }

  pub digits_all : digits_bytes digits ≡ digits_left 1
  unfolding digits_left digits_bytes
  digits_all = refl

-- ---- what reading answers

module _ (line output : List ℕ) where
  abbrev bytes : List ℕ
  bytes = triple_bytes (line_givens line)

  module _ (room : givens_room ≤ length output) (r : Refusal) (e : r ≡ line_refusal line) where
    by_line : read_refusal line output ≡ r
    unfolding read_refusal
    by_line = or_else_past _ _ (if_not _ (refusal 34 0 0) (le-ltb (length output) givens_room room)) ∙ sym e

    pub is_read : r.number ≡ 0 → wrote accepted (length bytes) (over output 0 bytes) ≡ read_line_of line output
    unfolding read_line_of
    is_read z = wrote_bytes (read_refusal line output) bytes output (ap (λ (x : Refusal). x.number) by_line ∙ z)
