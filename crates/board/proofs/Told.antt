-- Laws for the tests of a call, as functions answer them: a list of tests in front decides where one of its tests
-- holds, and where none does, the tests after it decide. So `?` passes on what the first part refuses.
-- Assumes nothing.
use Prim.Native.Nat.{ℕ, ◌≤◌}
use mathlib.Core.Path.{◌≡◌, refl, sym, ◌∙◌}
use mathlib.Core.Bool.{Bool, true, false}
use mathlib.Core.List.{List, [], ◌∷◌, ◌++◌}
use native.Mathlib.Omega.{arith}
use Rattle.std.specs.Prelude.{Result}
use Rattle.std.specs.Result.{IsErrAnd}
use Rattle.std.proofs.lemmas.Result.{err_from_is_err_and}
use Rattle.sudoku.specs.Tests.{Test, first, pick}
use Rattle.board.specs.declared.Board.{Board}
use Rattle.board.specs.declared.error.PlayError.{PlayError}
use Rattle.board.specs.declared.error.PlayError.TheVariants.{WrongLength, NotABoard, NoSuchCell, Solved, GivenCell, NoPlayersDigit, MarksNotAccepted, DigitOutOfRange, DigitAlreadyStands, MarkAlreadyWritten, MarkNotThere, NothingToUndo, NothingToRedo, JournalFull, ChecksFull}
use Rattle.board.specs.Board.{lent_tests}
use Rattle.board.specs.Errors.{play_number, number_told}

-- an error's number is none of an accepted call
pub has_number : (e : PlayError) → 1 ≤ play_number e
has_number WrongLength = omega arith
has_number NotABoard = omega arith
has_number NoSuchCell = omega arith
has_number Solved = omega arith
has_number GivenCell = omega arith
has_number NoPlayersDigit = omega arith
has_number MarksNotAccepted = omega arith
has_number DigitOutOfRange = omega arith
has_number DigitAlreadyStands = omega arith
has_number MarkAlreadyWritten = omega arith
has_number MarkNotThere = omega arith
has_number NothingToUndo = omega arith
has_number NothingToRedo = omega arith
has_number JournalFull = omega arith
has_number ChecksFull = omega arith

-- no test of the list has the number 0, which says that nothing is refused
abbrev pub Numbered : List Test → Type 0
Numbered [] = Unit
Numbered (t ∷ ts) = (1 ≤ t.number) × Numbered ts

-- ---- one test in front

step_refused : (t : Bool) (n x y : ℕ) → 1 ≤ pick t n y → (1 ≤ y → x ≡ y) → pick t n x ≡ pick t n y
unfolding pick
step_refused true n x y h e = refl
step_refused false n x y h e = e h

step_passed : (t : Bool) (n x y z : ℕ) → 1 ≤ n → pick t n y ≡ 0 → (y ≡ 0 → x ≡ z) → pick t n x ≡ z
unfolding pick
step_passed true n x y z l p e = absurd (omega arith)
step_passed false n x y z l p e = e p

-- ---- a list of tests in front

front_refuses : (ts us : List Test) → 1 ≤ first ts → first (ts ++ us) ≡ first ts
unfolding first
front_refuses [] us h = absurd (omega arith)
front_refuses (t ∷ ts) us h = step_refused t.holds t.number (first (ts ++ us)) (first ts) h (front_refuses ts us)

front_passes : (ts us : List Test) → Numbered ts → first ts ≡ 0 → first (ts ++ us) ≡ first us
unfolding first
front_passes [] us q p = refl
front_passes (t ∷ ts) us q p = step_passed t.holds t.number (first (ts ++ us)) (first ts) (first us) q.0 p (front_passes ts us q.1)

-- ---- what `?` does with the answer of the tests in front

-- what leaves by a `?`: the Err of the call, so its number too
pub told_by : {T : Type 0} (r : Result T PlayError) (e : PlayError) (n : ℕ) → IsErrAnd r (λ y. y ≡ e) → play_number e ≡ n → number_told r ≡ n
told_by r e n p q = let x = err_from_is_err_and r p in rw (x.1, x.2) q

-- an Err is passed on, whatever tests come after
pub told_err : (e : PlayError) (ts us : List Test) → play_number e ≡ first ts → play_number e ≡ first (ts ++ us)
told_err e ts us p = p ∙ sym (front_refuses ts us (omega (arith, has_number e)))

-- after an Ok the tests after it decide
pub told_ok : (ts us : List Test) → Numbered ts → 0 ≡ first ts → first (ts ++ us) ≡ first us
told_ok ts us q p = front_passes ts us q (sym p)

-- ---- the same of 1 and 2, which come in front of every call's tests

module _ (fits : Bool) (b : Board) (us : List Test) where
  pub lent_err : (e : PlayError) → play_number e ≡ first (lent_tests fits b []) → play_number e ≡ first (lent_tests fits b us)
  unfolding lent_tests
  lent_err e p = told_err e (lent_tests fits b []) us p

  pub lent_ok : 0 ≡ first (lent_tests fits b []) → first (lent_tests fits b us) ≡ first us
  unfolding lent_tests
  lent_ok p = told_ok (lent_tests fits b []) us (omega arith, (omega arith, tt)) p
