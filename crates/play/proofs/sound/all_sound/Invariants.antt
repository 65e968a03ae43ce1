-- `play::sound::all_sound` meets its contract: what is left to test from an entry on decides.
-- Assumes nothing.
use Prim.Native.Nat.{◌+◌, ◌-◌}
use mathlib.Core.Path.{◌≡◌}
use Rattle.puzzle.specs.Refusals.{first_refused}
use Rattle.play.proofs.sound.all_sound.Given as goal

abbrev pub invariant-loop-index : goal.invariant-loop-index
invariant-loop-index g l = first_refused (g.S.Stored.unsound l.given l.memory) l.count 1 ≡ first_refused (g.S.Stored.unsound l.given l.memory) (l.count + 1 - l.index) l.index
