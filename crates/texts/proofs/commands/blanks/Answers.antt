-- `texts::commands::blanks` meets its contract.
-- Assumes nothing.
use Rattle.std.proofs.Common.{not, rules, tests}
use Rattle.texts.specs.Commands.{is_blank}
use Rattle.texts.proofs.Figures.{place_found}
use Rattle.texts.proofs.commands.blanks.Goals as goal

pub returns : goal.returns
returns c = place_found (λ byte. not (is_blank byte)) c.args.text.now _ _ c.position-first.ensures.ran (cc) (λ x b q k. search (rules, tests)) c.unwrap_or.ensures
