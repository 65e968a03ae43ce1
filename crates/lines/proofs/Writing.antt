-- The characters of a line laid one after the other, and what writing answers where none of 2 and 34 applies.
-- Assumes nothing.
use Prim.Native.Nat.{ℕ, ◌+◌, ◌-◌, ◌≤◌, ◌<◌}
use mathlib.Core.Path.{◌≡◌, sym, ap, ◌∙◌}
use mathlib.Core.Bool.{true}
use mathlib.Core.List.{List, [], ◌∷◌, ◌++◌}
use native.Mathlib.Nat.{sub-eq-zero_of_le}
use native.Mathlib.Numerals.{add-one}
use borrow.Author.Tests.{le-ltb}
use lib.Dec.{ltb}
use lib.ListN.{length}
use Rattle.sudoku.specs.Tests.{listed}
use Rattle.sudoku.proofs.Walks.{not_is_false, left_one}
use Rattle.sudoku.proofs.Listed.{length_listed}
use Rattle.puzzle.specs.declared.Refusal.{Refusal}
use Rattle.puzzle.specs.Refusals.{refusal, accepted, refused_if}
use Rattle.puzzle.proofs.Accepted.{if_not}
use Rattle.puzzle.proofs.Refusals.{or_else_past}
use Rattle.journal.specs.Bytes.{over}
use Rattle.board.specs.declared.Board.{Board}
use Rattle.board.specs.Board.{is_board}
use Rattle.record.specs.Write.{wrote}
use Rattle.record.proofs.Writing.{wrote_bytes}
use Rattle.lines.specs.Lines.{line_bytes, character_at, line_of, write_line_refusal, write_line_of}

-- ---- characters, one after the other

module _ (f : ℕ → ℕ) where
  -- what is left from i on, where character i + 1 stands at i
  abbrev pub characters_left : ℕ → List ℕ
  characters_left i = listed f (81 - i) (i + 1)

  pub characters_turn : (i : ℕ) → i < 81 → characters_left i ≡ (f (i + 1) ∷ []) ++ characters_left (i + 1)
  unfolding listed
  characters_turn i h =
      ap (λ (n : ℕ). listed f n (i + 1)) (left_one 81 i h)
      ∙ ap (λ (k : ℕ). f (i + 1) ∷ listed f (81 - (i + 1)) k) (sym (add-one (i + 1)))

  pub characters_none : (i : ℕ) → 81 ≤ i → characters_left i ≡ []
  unfolding listed
  characters_none i h = ap (λ (n : ℕ). listed f n (i + 1)) (sub-eq-zero_of_le h)

-- ---- what writing answers

module _ (b : Board) (output : List ℕ) where
  module _ (t : is_board b ≡ true) where
    by_room : write_line_refusal b output ≡ refused_if (ltb (length output) line_bytes) (refusal 34 0 0)
    unfolding write_line_refusal
    by_room = or_else_past _ _ (if_not _ (refusal 2 0 0) (not_is_false _ t))

    pub is_written : line_bytes ≤ length output → wrote accepted line_bytes (over output 0 (line_of b)) ≡ write_line_of b output
    unfolding write_line_of line_of
    is_written h =
        ap (λ (n : ℕ). wrote accepted n (over output 0 (line_of b))) (sym (length_listed (character_at b.given b.digits) 81 1))
        ∙ wrote_bytes (write_line_refusal b output) (line_of b) output
        (ap (λ (x : Refusal). x.number) (by_room ∙ if_not _ (refusal 34 0 0) (le-ltb (length output) line_bytes h)))
