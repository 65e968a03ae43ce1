-- `screen::keys::keypad` meets its contract: each call gives a character of the line.
-- Assumes nothing.
use borrow.Author.Rules.{rules}
use Rattle.sudoku.proofs.Made.{made_listed}
use Rattle.screen.specs.Keys.{key_sign, keypad_of}
use Rattle.screen.proofs.keys.keypad.Goals as goal

pub returns : goal.returns
unfolding keypad_of
returns c = made_listed (key_sign c.args.digits.now) _ 57 (λ k y q l e. search rules) _ c.from_fn.ensures.items
