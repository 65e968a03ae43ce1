-- `commands::Game::open_files` meets its contract.
-- Assumes nothing.
use Rattle.std.proofs.Common.{◌∙◌}
use Rattle.commands.specs.Perform.{taken_up, open_leaves}
use Rattle.sudoku.specs.Tests.{pick, both}
use Rattle.commands.proofs.Game.open_files.Goals as goal

pub returns-clause-left : goal.returns-clause-left
unfolding open_leaves taken_up pick both
returns-clause-left g c =
    let loaded = c.load-loaded.ensures in
    let board = c.args.self.now.board in
    record {
      file = loaded.file;
      answers = loaded.answers;
      leaves = c.take_up.ensures.left ∙ (λ i. taken_up board (loaded.is i));
    }
