-- `lines::lay_given` meets its contract: no bytes, or the three of the given.
-- Assumes nothing.
use Prim.Native.Nat.{ℕ, ◌+◌, ◌≤◌}
use mathlib.Core.Path.{◌≡◌, sym, ap, ◌∙◌}
use mathlib.Core.List.{List, [], ◌∷◌}
use native.Mathlib.Omega.{arith}
use borrow.Author.Tests.{eq-eqb, ne_eqb}
use lib.ListN.{length}
use Rattle.sudoku.specs.Grid.{at, row_of, column_of}
use Rattle.sudoku.proofs.Walks.{pick_true, pick_false, not_is_true, not_is_false}
use Rattle.puzzle.specs.Puzzle.{holds_digit}
use Rattle.journal.specs.Bytes.{over}
use Rattle.journal.proofs.Memory.{over_nil}
use Rattle.journal.proofs.Stores.{copied, laid_over}
use Rattle.lines.specs.Code.Triples.{given_bytes}
use Rattle.lines.proofs.lay_given.Goals as goal

module _ (digits : List ℕ) (cell digit : ℕ) (e : digit ≡ at digits cell) where
  empty : digit ≡ 0 → given_bytes digits cell ≡ []
  unfolding given_bytes holds_digit
  empty z = pick_false _ _ _ (not_is_false _ (eq-eqb (at digits cell) 0 (sym e ∙ z)))

  held : (digit ≡ 0 → ⊥) → given_bytes digits cell ≡ row_of cell ∷ column_of cell ∷ digit ∷ []
  unfolding given_bytes holds_digit
  held n =
      pick_true _ _ _ (not_is_true _ (ne_eqb (at digits cell) 0 (λ z. n (e ∙ z))))
      ∙ ap (λ (d : ℕ). row_of cell ∷ column_of cell ∷ d ∷ []) (sym e)

pub returns-then-digit-eq0 : goal.returns-then-digit-eq0
returns-then-digit-eq0 c =
    let a = c.args in
    let none = empty a.digits.now a.cell c.digit_at-digit.result c.digit_at-digit.ensures c.if-digit-eq0.true in
    (omega (arith, ap length none), sym (over_nil a.output.now a.at) ∙ ap (over a.output.now a.at) (sym none))

pub returns : goal.returns
returns c =
    let a = c.args in
    let item = held a.digits.now a.cell c.digit_at-digit.result c.digit_at-digit.ensures c.if-digit-eq0.false in
    let bytes = c.copy_from_slice.new.self in
    let same = c.copy_from_slice.ensures.after in
    let room : a.at + length bytes ≤ length a.output.now = omega (arith, c.requires.1, ap length item, ap length same) in (
      ap (λ (l : List ℕ). a.at + length l) (sym item),
      copied a.output.now a.at _ bytes (omega (arith, ap length same)) room
          ∙ laid_over a.output.now a.at bytes room
          ∙ ap (over a.output.now a.at) same
          ∙ (λ j. over a.output.now a.at (c.row_of.ensures j ∷ c.column_of.ensures.0 j ∷ c.digit_at-digit.result ∷ []))
          ∙ ap (over a.output.now a.at) (sym item),
    )
