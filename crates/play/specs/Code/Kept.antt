-- The latest standing move and the next to redo are among those that were made.
-- Assumes nothing.
use mathlib.Core.List.{[]}
use native.Mathlib.Omega.{arith}
use borrow.Author.Tests.{eqb-false, leb-false}
use Rattle.sudoku.proofs.Walks.{passed}
use Rattle.play.specs.Code.Turns.{latest_none, latest_at, next_none, next_at, Within}

pub latest_within : Within latest_none latest_at
latest_within c p l = let some = eqb-false c.standing 0 (passed _ 11 [] p).0 in (omega (arith, some), l)

pub next_within : Within next_none next_at
next_within c p l = let more = leb-false c.made c.standing (passed _ 12 [] p).0 in (omega arith, omega (arith, more))
