-- `play::shown::slot_part` meets its contract.
-- Assumes nothing.
use Prim.Native.Nat.{ℕ, ◌+◌, ◌-◌, ◌*◌}
use mathlib.Core.Path.{◌≡◌, ap}
use native.Mathlib.Omega.{arith}
use lib.ListN.{take, drop}
use Rattle.journal.specs.Limits.{slot_bytes}
use Rattle.journal.specs.Bytes.{part}
use Rattle.journal.specs.Slots.{slot_part, slot_start}
use Rattle.play.proofs.shown.slot_part.Goals as goal

pub returns : goal.returns
unfolding slot_part part slot_start
returns c =
    let start = slot_bytes * (c.args.n - 1) in
    let size : start + slot_bytes - start ≡ slot_bytes = omega arith in
    ap (λ (n : ℕ). take n (drop start c.args.journal.now)) size
