-- `record::write::Kept::length` meets its contract.
-- Assumes nothing.
use native.Mathlib.Omega.{arith}
use Rattle.record.proofs.Laying.{length_record}
use Rattle.record.proofs.write.Kept.length.Goals as goal

pub returns : goal.returns
returns c =
    let a = c.args.self.now in
    omega (arith, length_record a.board.now a.journal.now a.checks.now, c.count_givens.ensures.0, c.moves_length.ensures)
