-- `files::disk::whole_cells` meets its contract.
-- Assumes nothing.
use mathlib.Core.Path.{ap, ◌∙◌}
use Rattle.std.specs.Result.{result_ok}
use Rattle.files.proofs.Whole.{grid_is_whole}
use Rattle.files.proofs.disk.whole_cells.Goals as goal

pub returns-in-Ok : goal.returns-in-Ok
returns-in-Ok c = ap result_ok c.in-Ok.ensures ∙ grid_is_whole c.args.text.now

pub returns-in-Err : goal.returns-in-Err
returns-in-Err c = ap result_ok c.in-Err.ensures ∙ grid_is_whole c.args.text.now
