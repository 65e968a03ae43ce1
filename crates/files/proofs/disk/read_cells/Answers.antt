-- `files::disk::read_cells` meets its contract: the file holds what was read.
-- Assumes nothing.
use Rattle.files.specs.Disk.{unread, holding, cells_in}
use Rattle.files.proofs.disk.read_cells.Goals as goal

pub returns-in_err-text : goal.returns-in_err-text
unfolding cells_in
returns-in_err-text g c = record { file = unread; are = c.from_residual.ensures }

pub returns : goal.returns
unfolding cells_in
returns g c = record { file = holding c.in_ok-text.text.now; are = c.whole_cells.ensures }
