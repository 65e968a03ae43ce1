-- `screen::Cells::picture` meets its contract: each call gives a character of the drawn board.
-- Assumes nothing.
use borrow.Author.Rules.{rules}
use Rattle.sudoku.proofs.Made.{made_listed}
use Rattle.screen.specs.Picture.{size, sign_of, picture_of}
use Rattle.screen.proofs.Cells.picture.Goals as goal

pub returns : goal.returns
unfolding picture_of sign_of
returns c =
    let cells = c.args.self.now in
    made_listed (sign_of cells.digits.now cells.given.now c.args.notes.now) _ size (λ k y q l e. search rules) _ c.from_fn.ensures.items
