-- A reading that is refused has a number, so it is none that is accepted.
-- Assumes nothing.
use mathlib.Core.Path.{◌≡◌, refl}
use mathlib.Core.Bool.{false}
use native.Mathlib.Omega.{arith}
use borrow.Author.Tests.{ne_eqb}
use Rattle.puzzle.specs.Refusals.{is_accepted}
use Rattle.board.proofs.Told.{has_number}
use Rattle.play.specs.declared.sound.Unsound.TheVariants.{Slot, Check}
use Rattle.readings.specs.declared.error.ReadingError.{ReadingError}
use Rattle.readings.specs.declared.error.ReadingError.TheVariants.{Play, Unsound, NoSuchMove}
use Rattle.readings.specs.Errors.{reading_error_refusal}

pub refuses : (e : ReadingError) → is_accepted (reading_error_refusal e) ≡ false
unfolding is_accepted
refuses (Play e) = ne_eqb _ 0 (λ z. omega (arith, has_number e))
refuses (Unsound (Slot index)) = refl
refuses (Unsound (Check index)) = refl
refuses NoSuchMove = refl
