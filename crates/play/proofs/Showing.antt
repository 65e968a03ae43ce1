-- The latest standing move and the next to redo, shown: its slot lies within the journal, and the part that holds it is
-- whole.
-- Assumes nothing.
use Prim.Native.Nat.{ℕ, ◌*◌, ◌-◌, ◌≤◌}
use mathlib.Core.Path.{◌≡◌, ap, ◌∙◌}
use mathlib.Core.List.{List}
use native.Mathlib.Omega.{arith}
use borrow.Author.Tests.{eq-eqb}
use lib.ListN.{length, drop, length-drop}
use lib.Seq.{length-take-le}
use Rattle.sudoku.proofs.Walks.{pick_true}
use Rattle.sudoku.specs.Tests.{Test}
use Rattle.journal.specs.declared.Counts.{Counts}
use Rattle.journal.specs.Limits.{slot_bytes}
use Rattle.journal.specs.Bytes.{part}
use Rattle.journal.specs.Slots.{slot_part, slot_start}
use Rattle.board.specs.declared.Board.{Board}
use Rattle.board.specs.Board.{counts_of}
use Rattle.play.proofs.Accepted.{lent_passed}
use Rattle.play.specs.Code.Turns.{shown_number, shown_part, Within}

-- a slot that lies within the journal has its eight bytes
slot_length : (journal : List ℕ) (n : ℕ) → 1 ≤ n → slot_bytes * n ≤ length journal → length (slot_part journal n) ≡ slot_bytes
unfolding slot_part part slot_start
slot_length journal n l h =
    length-take-le slot_bytes (drop (slot_bytes * (n - 1)) journal) (omega (arith, l, h, length-drop (slot_bytes * (n - 1)) journal))

module _ (none : Counts → Test) (at : Counts → ℕ) (made : Within none at) (b : Board) (journal : List ℕ) (p : shown_number none b journal ≡ 0) where
  pub shown_within : (1 ≤ at (counts_of b)) × (slot_bytes * at (counts_of b) ≤ length journal)
  unfolding shown_number counts_of
  shown_within =
      let lent = lent_passed b journal _ p in
      let there = made (counts_of b) lent.rest lent.counts.standing in
      (there.0, omega (arith, lent.bytes, lent.counts.made, there.1))

  pub shown_is : shown_part none at b journal ≡ slot_part journal (at (counts_of b))
  unfolding shown_part
  shown_is = pick_true _ _ _ (eq-eqb (shown_number none b journal) 0 p)

  pub shown_length : length (shown_part none at b journal) ≡ slot_bytes
  shown_length = ap length shown_is ∙ slot_length journal (at (counts_of b)) shown_within.0 shown_within.1
