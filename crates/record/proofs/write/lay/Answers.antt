-- `record::write::lay` meets its contract: the part of the output is written over.
-- Assumes nothing.
use mathlib.Core.Path.{refl, ◌∙◌}
use native.Mathlib.Omega.{arith}
use lib.ListN.{length}
use lib.Seq.{take-length}
use Rattle.std.proofs.lemmas.Slice.{put_mid-paste}
use Rattle.journal.specs.Bytes.{over}
use Rattle.record.proofs.write.lay.Goals as goal

pub returns : goal.returns
unfolding over
returns c =
    let a = c.args in
    let bytes = a.bytes.now in
    let n = length bytes in
    (refl, put_mid-paste a.at _ a.output.now _ bytes n c.copy_from_slice.ensures.after (omega arith) refl ∙ rw (take-length bytes) refl)
