-- `commands::perform::perform` meets its contract. Only open looks at files.
-- Assumes nothing.
use Rattle.std.proofs.Common.{refl}
use mathlib.Core.Logic.{⊎_elim}
use Rattle.texts.specs.declared.Verb.TheVariants as verb
use Rattle.texts.specs.Commands.{request}
use Rattle.commands.specs.Perform.{played, is_move, is_undo, is_check, is_open, is_puzzle}
use Rattle.commands.proofs.Performing.{by_move, by_undo, by_check, by_open, by_puzzle, by_none, by_other, no_move, no_undo, no_check_lem, no_open, no_puzzle}
use Rattle.commands.proofs.perform.perform.Goals as goal

pub returns-in-Place-clause-performed : goal.returns-in-Place-clause-performed
unfolding is_move is_open is_puzzle
returns-in-Place-clause-performed g c =
    let move = by_move (request c.args.command) (played c.args.game.now) (played c.make.new.self) in
    ⊎_elim (move verb.Place refl refl refl c.make.ensures.left)
    (⊎_elim (move verb.Mark refl refl refl c.make.ensures.left) (move verb.Erase refl refl refl c.make.ensures.left))
    c.in-Place.is

pub returns-in-Undo-clause-performed : goal.returns-in-Undo-clause-performed
unfolding is_move is_undo is_open is_puzzle
returns-in-Undo-clause-performed g c =
    let undo = by_undo (request c.args.command) (played c.args.game.now) (played c.step.new.self) in
    ⊎_elim (undo verb.Undo refl refl refl refl c.step.ensures.left) (undo verb.Redo refl refl refl refl c.step.ensures.left) c.in-Undo.is

pub returns-in-Check-clause-performed : goal.returns-in-Check-clause-performed
returns-in-Check-clause-performed g c = by_check (request c.args.command) (played c.args.game.now) (played c.check.new.self) c.check.ensures.left c.in-Check.is

pub returns-in-Open-clause-performed : goal.returns-in-Open-clause-performed
returns-in-Open-clause-performed g c = by_open (request c.args.command) (played c.args.game.now) (played c.open.new.self) c.open.ensures.left c.in-Open.is

pub returns-in-Puzzle-clause-performed : goal.returns-in-Puzzle-clause-performed
returns-in-Puzzle-clause-performed g c = by_puzzle (request c.args.command) (played c.args.game.now) (played c.open_line.new.self) c.open_line.ensures.left c.in-Puzzle.is

pub returns-in-Save-clause-performed : goal.returns-in-Save-clause-performed
unfolding is_move is_undo is_check is_open is_puzzle
returns-in-Save-clause-performed g c =
    by_other (request c.args.command) (played c.args.game.now) verb.Save refl refl refl refl refl c.in-Save.is

pub returns-in-NoWord-clause-performed : goal.returns-in-NoWord-clause-performed
unfolding is_move is_undo is_check is_open is_puzzle
returns-in-NoWord-clause-performed g c =
    by_other (request c.args.command) (played c.args.game.now) verb.NoWord refl refl refl refl refl c.in-NoWord.is

pub returns-in_default-clause-performed : goal.returns-in_default-clause-performed
returns-in_default-clause-performed g c =
    let none = c.in_default in
    let v = c.args.command.verb in
    by_none (request c.args.command) (played c.args.game.now)
    (no_move v none.not-Place none.not-Mark none.not-Erase)
    (no_undo v none.not-Undo none.not-Redo)
    (no_check_lem v none.not-Check)
    (no_open v none.not-Open)
    (no_puzzle v none.not-Puzzle)
