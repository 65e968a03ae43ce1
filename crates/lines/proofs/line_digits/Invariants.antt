-- `lines::line_digits` meets its contract: what is left to test decides, and the digits passed so far are what the
-- characters say.
-- Assumes nothing.
use Prim.Native.Nat.{◌+◌, ◌-◌}
use mathlib.Core.Path.{◌≡◌}
use lib.ListN.{length, take}
use Rattle.sudoku.specs.Tests.{listed}
use Rattle.puzzle.specs.Refusals.{first_refused}
use Rattle.lines.specs.Lines.{other_sort}
use Rattle.lines.proofs.Reading.{entry}
use Rattle.lines.proofs.line_digits.Given as goal

abbrev pub invariant-loop-i : goal.invariant-loop-i
invariant-loop-i l = record {
  tested : first_refused (other_sort l.line) 81 1 ≡ first_refused (other_sort l.line) (82 - (l.i + 1)) (l.i + 1);
  long : length l.digits ≡ 81;
  filled : take l.i l.digits ≡ listed (entry l.line) l.i 0;
}
