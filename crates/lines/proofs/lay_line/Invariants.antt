-- `lines::lay_line` meets its contract: what is left to lay.
-- Assumes nothing.
use Rattle.record.proofs.Laying.{Laying}
use Rattle.lines.specs.Lines.{character_at, line_of}
use Rattle.lines.proofs.Writing.{characters_left}
use Rattle.lines.proofs.lay_line.Given as goal

abbrev pub invariant-loop-index : goal.invariant-loop-index
invariant-loop-index l = Laying l.initial.output 0 (line_of l.board) l.output l.index (characters_left (character_at l.board.given l.board.digits) l.index)
