-- Each error has a number, and an accepted call's is 0.
-- Assumes nothing.
use mathlib.Core.Path.{◌≡◌}
use native.Mathlib.Omega.{arith}
use Rattle.board.proofs.Told.{has_number}
use Rattle.puzzle.proofs.Refusals.{refuses}
use Rattle.play.proofs.Accepted.{unsound_numbered}
use Rattle.record.specs.declared.error.WriteError.{WriteError}
use Rattle.record.specs.declared.error.WriteError.TheVariants.{Play, Unsound as NotSound, OutputTooShort}
use Rattle.record.specs.declared.error.ReopenError.{ReopenError}
use Rattle.record.specs.declared.error.ReopenError.TheVariants.{Malformed, Oversized, WellPosed, TooManyUndone, ChecksWithoutMoves, MoveAfterSolved, MoveRefused, UndoneWhenSolved, CheckRefused, CheckAfterNoMove, CheckSolved}
use Rattle.record.specs.Errors.{write_error_refusal, reopen_refusal}

pub write_numbered : (e : WriteError) → (write_error_refusal e).number ≡ 0 → ⊥
write_numbered (Play e) p = omega (arith, has_number e, p)
write_numbered (NotSound e) p = unsound_numbered e p
write_numbered OutputTooShort p = omega (arith, p)

pub reopen_numbered : (e : ReopenError) → (reopen_refusal e).number ≡ 0 → ⊥
reopen_numbered (Malformed item) p = omega (arith, p)
reopen_numbered Oversized p = omega (arith, p)
reopen_numbered (WellPosed e) p = refuses e p
reopen_numbered TooManyUndone p = omega (arith, p)
reopen_numbered ChecksWithoutMoves p = omega (arith, p)
reopen_numbered (MoveAfterSolved index) p = omega (arith, p)
reopen_numbered (MoveRefused index why) p = omega (arith, p)
reopen_numbered UndoneWhenSolved p = omega (arith, p)
reopen_numbered (CheckRefused index why) p = omega (arith, p)
reopen_numbered (CheckAfterNoMove index) p = omega (arith, p)
reopen_numbered (CheckSolved index) p = omega (arith, p)
