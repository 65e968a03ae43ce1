-- Each error of lines has a number.
-- Assumes nothing.
use mathlib.Core.Path.{◌≡◌}
use native.Mathlib.Omega.{arith}
use Rattle.board.proofs.Told.{has_number}
use Rattle.lines.specs.declared.error.LineError.{LineError}
use Rattle.lines.specs.declared.error.LineError.TheVariants.{Play, OutputTooShort, NotALine, OtherSort}
use Rattle.lines.specs.Errors.{line_error_refusal}

pub line_numbered : (e : LineError) → (line_error_refusal e).number ≡ 0 → ⊥
line_numbered (Play e) p = omega (arith, has_number e, p)
line_numbered OutputTooShort p = omega (arith, p)
line_numbered NotALine p = omega (arith, p)
line_numbered (OtherSort character) p = omega (arith, p)
