-- Laws for the tests of a call that come after others: each has a number, and what passes them all passes the last ones.
-- Assumes nothing.
use Prim.Native.Nat.{ℕ, ◌≤◌}
use mathlib.Core.Path.{◌≡◌}
use mathlib.Core.Bool.{Bool, true, false}
use mathlib.Core.List.{List, [], ◌∷◌, ◌++◌}
use native.Mathlib.Omega.{arith}
use Rattle.sudoku.specs.Tests.{Test, first, pick}
use Rattle.journal.specs.State.{State}
use Rattle.board.proofs.Told.{Numbered}
use Rattle.play.specs.declared.Play.{Play}
use Rattle.play.specs.declared.Play.TheVariants as play
use Rattle.play.specs.Play.{move_tests, play_tests}

pub plays_numbered : (s : State) (p : Play) → Numbered (play_tests s p)
unfolding play_tests move_tests
plays_numbered s (play.Place row column digit) = (omega arith, (omega arith, (omega arith, (omega arith, (omega arith, tt)))))
plays_numbered s (play.Erase row column) = (omega arith, (omega arith, (omega arith, tt)))
plays_numbered s (play.Pencil row column digit) = (omega arith, (omega arith, (omega arith, (omega arith, tt))))

step_last : (t : Bool) (n x z : ℕ) → 1 ≤ n → pick t n x ≡ 0 → (x ≡ 0 → z ≡ 0) → z ≡ 0
unfolding pick
step_last true n x z l p e = absurd (omega arith)
step_last false n x z l p e = e p

pub join_last : (ts us : List Test) → Numbered ts → first (ts ++ us) ≡ 0 → first us ≡ 0
unfolding first
join_last [] us q p = p
join_last (t ∷ ts) us q p = step_last t.holds t.number (first (ts ++ us)) (first us) q.0 p (join_last ts us q.1)
