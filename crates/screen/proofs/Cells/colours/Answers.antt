-- `screen::Cells::colours` meets its contract: each call gives the colour of a character.
-- Assumes nothing.
use borrow.Author.Rules.{rules}
use Rattle.sudoku.proofs.Made.{made_listed}
use Rattle.screen.specs.Picture.{size, colour_of, colours_of}
use Rattle.screen.proofs.Cells.colours.Goals as goal

pub returns : goal.returns
unfolding colours_of colour_of
returns c =
    let cells = c.args.self.now in
    made_listed (colour_of cells.digits.now cells.given.now) _ size (λ k y q l e. search rules) _ c.from_fn.ensures.items
