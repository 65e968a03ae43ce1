-- What is lent and is not sound, as a refusal: 14 with the number of the slot or the check; inner is 1 for a check.
-- Assumes nothing.
use Rattle.puzzle.specs.declared.Refusal.{Refusal}
use Rattle.puzzle.specs.Refusals.{refusal}
use Rattle.play.specs.declared.sound.Unsound.{Unsound}
use Rattle.play.specs.declared.sound.Unsound.TheVariants.{Slot, Check}

abbrev pub unsound_refusal : Unsound → Refusal
unsound_refusal (Slot index) = refusal 14 index 0
unsound_refusal (Check index) = refusal 14 index 1
