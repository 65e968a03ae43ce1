-- `terminal::input::Input::read_line` meets its contract.
-- Assumes nothing.
use Rattle.terminal.proofs.Reading.{Going}
use Rattle.terminal.proofs.input.Input.read_line.Given as goal

abbrev pub invariant-loop : goal.invariant-loop
invariant-loop g l = Going l.initial.self l.self l.line
