-- `terminal::input::Input::read_line` meets its contract.
-- Assumes nothing.
use Rattle.std.proofs.Common.{ap, ◌∙◌, Some}
use Rattle.terminal.proofs.Reading.{nothing_read, stops, none_left, input_ends, line_ends, goes_on}
use Rattle.terminal.proofs.input.Input.read_line.Goals as goal

pub loop-init : goal.loop-init
loop-init g c = nothing_read c.args.self.now _ c.new-line.ensures

pub returns-then-line-eq0 : goal.returns-then-line-eq0
returns-then-line-eq0 g c = none_left _ _ _ c.loop.invariant _ _ c.next_byte.ensures c.in_default.is c.if-line-eq0.true

pub returns-else-line-eq0 : goal.returns-else-line-eq0
returns-else-line-eq0 g c = input_ends _ _ _ c.loop.invariant _ _ c.next_byte.ensures c.in_default.is

pub returns-then-byte-eq10 : goal.returns-then-byte-eq10
returns-then-byte-eq10 g c = line_ends _ _ _ c.loop.invariant _ _ c.next_byte.ensures (c.in-Some.is ∙ ap Some c.if-byte-eq10.true)

pub loop-preserved : goal.loop-preserved
loop-preserved g c = goes_on _ _ _ c.loop.invariant _ _ c.next_byte.ensures _ c.in-Some.is c.if-byte-eq10.false _ c.put.ensures.line c.put.ensures.fits

pub returns : goal.returns
returns g c = stops _ _ _ c.loop.invariant
