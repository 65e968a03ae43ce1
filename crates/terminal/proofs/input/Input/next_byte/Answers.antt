-- `terminal::input::Input::next_byte` meets its contract.
-- Assumes nothing.
use Rattle.terminal.proofs.Reading.{from_buffer, from_input}
use Rattle.terminal.proofs.input.Input.next_byte.Goals as goal

pub returns-then-self : goal.returns-then-self
returns-then-self g c = from_buffer _ _ _ c.taken.ensures.byte c.taken.ensures.behind

pub returns : goal.returns
returns g c =
    let read = c.read_anew.new.self in
    from_input _ _ _ read c.if-self.false c.read_anew.ensures.within c.taken-2.ensures.byte c.taken-2.ensures.behind
