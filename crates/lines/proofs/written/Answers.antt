-- `lines::written` meets its contract: 2, then 34, then the line.
-- Assumes nothing.
use mathlib.Core.Path.{sym, ◌∙◌}
use Rattle.sudoku.proofs.Listed.{length_listed}
use Rattle.board.proofs.Values.{board_digits}
use Rattle.lines.specs.Lines.{character_at, line_of}
use Rattle.lines.proofs.written.Goals as goal

pub lay_line-requires : goal.lay_line-requires
lay_line-requires c = (board_digits c.args.board.now (sym c.is_board.ensures ∙ c.if-not-is_board.false), c.if-output-lt-LINE_BYTES.false)

pub returns-clause-laid : goal.returns-clause-laid
unfolding line_of
returns-clause-laid c =
    let b = c.args.board.now in
    (sym (length_listed (character_at b.given b.digits) 81 1), c.lay_line.ensures)
