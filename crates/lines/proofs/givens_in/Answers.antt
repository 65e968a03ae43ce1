-- `lines::givens_in` meets its contract: the front of the room, where the givens were laid.
-- Assumes nothing.
use mathlib.Core.Path.{sym, ap, ◌∙◌}
use native.Mathlib.Omega.{arith}
use lib.ListN.{take}
use lib.Seq.{take_at}
use Rattle.journal.specs.Bytes.{over}
use Rattle.lines.specs.Lines.{digits_bytes}
use Rattle.lines.proofs.Reading.{digits_room}
use Rattle.lines.proofs.givens_in.Goals as goal

pub shared_ref_as_front-result : goal.shared_ref_as_front-result
shared_ref_as_front-result c = omega (arith, c.lay_givens-length.ensures.0, digits_room c.args.digits.now)

pub returns : goal.returns
unfolding over
returns c =
    let laid = c.lay_givens-length.ensures in
    let bytes = digits_bytes c.args.digits.now in
    ap (take c.lay_givens-length.result) laid.1 ∙ take_at bytes _ _ (sym laid.0)
