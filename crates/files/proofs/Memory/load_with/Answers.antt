-- `files::Memory::load_with` meets its contract: the file holds what was read.
-- Assumes nothing.
use mathlib.Core.Path.{ap}
use Rattle.std.specs.Prelude.{Option}
use Rattle.board.specs.declared.Board.{Board}
use Rattle.files.specs.Disk.{unread, holding}
use Rattle.files.specs.Load.{left, stays, load_file}
use Rattle.files.proofs.Memory.load_with.Goals as goal

pub returns-in_err-bytes : goal.returns-in_err-bytes
unfolding load_file stays
returns-in_err-bytes g c =
    record {
      file = unread;
      is = ap (λ (b : Option Board). left b c.args.self.now.journal c.args.self.now.checks) c.from_residual.ensures;
    }

pub returns : goal.returns
unfolding load_file
returns g c = record { file = holding c.in_ok-bytes.bytes.now; is = c.load_bytes.ensures }
