-- `puzzle::given_bytes::GivenBytes::digits` meets its contract: each given's digit is laid at its cell.
-- Assumes nothing.
use mathlib.Core.Path.{◌∙◌}
use borrow.Author.Rules.{rules}
use lib.ListN.{replicate}
use Rattle.puzzle.specs.declared.Given.{Given}
use Rattle.puzzle.specs.Givens.{digits_of}
use Rattle.puzzle.specs.Code.GivenBytes.{given_in, givens_in, laid_by}
use Rattle.puzzle.proofs.GivenBytes.{put_walk}
use Rattle.puzzle.proofs.given_bytes.GivenBytes.digits.Goals as goal

pub returns : goal.returns
unfolding digits_of givens_in laid_by
returns c =
    let self = c.args.self in
    c.laid.ensures (λ (g : Given). g.digit) (λ g x p. search rules) ∙ put_walk (given_in self.layout self.bytes.now) (replicate 81 0) self.count 0
