-- `pawdoku::slots::pawdoku_next` meets its contract.
-- Assumes nothing.
use native.Mathlib.Omega.{arith}
use denote.Bor.{Bor}
use mathlib.Core.List.{List}
use Prim.Native.Nat.{ℕ}
use Rattle.board.specs.Board.{counts_of}
use Rattle.play.specs.Code.Kept.{next_within}
use Rattle.play.proofs.Showing.{shown_within, shown_length}
use Rattle.pawdoku.proofs.Showing.{where_shown}
use Rattle.pawdoku.proofs.slots.pawdoku_next.Goals as goal

pub shown-requires : goal.shown-requires
unfolding counts_of
shown-requires c =
    let a = c.args in
    where_shown (λ (p : Bor (List ℕ)). p.now) _ _ _ _ c.slot_shown-slot.ensures.number c.slot_shown-slot.ensures.part
    (λ z. (shown_length _ _ next_within a.board a.journal.now z, omega (arith, shown_within _ _ next_within a.board a.journal.now z, c.type_inv.journal)))
