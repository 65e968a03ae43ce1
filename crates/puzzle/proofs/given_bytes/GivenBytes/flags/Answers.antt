-- `puzzle::given_bytes::GivenBytes::flags` meets its contract: 1 is laid at each given's cell.
-- Assumes nothing.
use mathlib.Core.Path.{◌∙◌}
use borrow.Author.Rules.{rules}
use lib.ListN.{replicate}
use Rattle.puzzle.specs.declared.Given.{Given}
use Rattle.puzzle.specs.Givens.{given_cells}
use Rattle.puzzle.specs.Code.GivenBytes.{given_in, givens_in, laid_by}
use Rattle.puzzle.proofs.GivenBytes.{mark_walk}
use Rattle.puzzle.proofs.given_bytes.GivenBytes.flags.Goals as goal

pub returns : goal.returns
unfolding given_cells givens_in laid_by
returns c =
    let self = c.args.self in
    c.laid.ensures (λ (g : Given). 1) (λ g x p. search rules) ∙ mark_walk (given_in self.layout self.bytes.now) (replicate 81 0) self.count 0
