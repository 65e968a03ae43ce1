-- `commands::Game::open` meets its contract.
-- Assumes nothing.
use Rattle.files.specs.Load.{name_of}
use Rattle.commands.specs.Perform.{played}
use Rattle.commands.proofs.Performing.{opens_one, opens_two, opens_none}
use Rattle.commands.proofs.Game.open.Goals as goal

pub returns-in-One-clause-left : goal.returns-in-One-clause-left
unfolding name_of
returns-in-One-clause-left g c =
    opens_one c.args.command.verb (played c.args.self.now) (played c.open_files.new.self) c.args.command.words c.in-One.path c.in-One.is c.open_files.ensures.left

pub returns-in-Two-clause-left : goal.returns-in-Two-clause-left
unfolding name_of
returns-in-Two-clause-left g c =
    opens_two c.args.command.verb (played c.args.self.now) (played c.open_files-in-Two.new.self) c.args.command.words c.in-Two.path c.in-Two.solution c.in-Two.is c.open_files-in-Two.ensures.left

pub returns-in_default-clause-left : goal.returns-in_default-clause-left
returns-in_default-clause-left g c =
    opens_none c.args.command.verb c.args.command.words (played c.args.self.now) c.in_default.not-One c.in_default.not-Two
