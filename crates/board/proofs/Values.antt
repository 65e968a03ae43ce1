-- Laws for the walks over the 81 cells of a board value: a loop counts i from 0, and cell i + 1 stands at i. And what
-- number 2 leaves of its digits.
-- Assumes nothing.
use Prim.Native.Nat.{ℕ, ◌+◌, ◌-◌, ◌≤◌, ◌<◌}
use mathlib.Core.Path.{◌≡◌, refl, sym, ap, ◌∙◌}
use mathlib.Core.Bool.{Bool, true}
use mathlib.Core.List.{List}
use native.Mathlib.Omega.{arith}
use borrow.Author.Tests.{leb-true}
use lib.Dec.{leb}
use lib.ListN.{get_or}
use Rattle.sudoku.specs.Tests.{both, every}
use Rattle.sudoku.specs.Grid.{at}
use Rattle.sudoku.proofs.Walks.{both_assoc, both_second, both_left, both_right, every_step, every_all, every_at}
use Rattle.board.specs.declared.Board.{Board}
use Rattle.board.specs.Board.{is_board, may_stand, digit_value}

back_one : (i : ℕ) → i + 1 - 1 ≡ i
back_one i = omega arith

-- what stands at cell i + 1
pub at_next : (l : List ℕ) (i : ℕ) → at l (i + 1) ≡ get_or l i 0
unfolding at
at_next l i = ap (λ (k : ℕ). get_or l k 0) (back_one i)

-- what a turn does: ok is what was found of the cells before, r of this cell too
pub turn :
    (f : ℕ → Bool) (all ok r : Bool) (i : ℕ)
    → i < 81
    → r ≡ both ok (f (i + 1))
    → all ≡ both ok (every f (82 - (i + 1)) (i + 1))
    → all ≡ both r (every f (82 - (i + 1 + 1)) (i + 1 + 1))
turn f all ok r i h e w =
    w
    ∙ ap (both ok) (every_step f 82 (i + 1) (omega arith))
    ∙ sym (both_assoc ok (f (i + 1)) (every f (82 - (i + 1 + 1)) (i + 1 + 1)))
    ∙ ap (λ (t : Bool). both t (every f (82 - (i + 1 + 1)) (i + 1 + 1))) (sym e)

-- at the end nothing is left
pub at_end : (f : ℕ → Bool) (all ok : Bool) (i : ℕ) → 81 ≤ i → all ≡ both ok (every f (82 - (i + 1)) (i + 1)) → ok ≡ all
at_end f all ok i h w = sym (w ∙ ap (both ok) (every_all f 82 (i + 1) (omega arith)) ∙ both_second ok true refl)

-- ---- what number 2 leaves of a board's digits

pub board_digits : (b : Board) → is_board b ≡ true → every (digit_value b.digits b.given) 81 1 ≡ true
unfolding is_board
board_digits b t =
    both_left _ _ (both_right (leb b.solved 1) _ (both_right _ _ (both_right _ _ (both_right _ _ t))))

pub digit_small : (digits given : List ℕ) (cell : ℕ) → every (digit_value digits given) 81 1 ≡ true → 1 ≤ cell → cell ≤ 81 → at digits cell ≤ 9
unfolding digit_value may_stand
digit_small digits given cell t l u = leb-true (at digits cell) 9 (both_left _ _ (every_at (digit_value digits given) 81 1 cell t l (omega arith)))
