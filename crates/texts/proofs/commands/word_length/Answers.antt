-- `texts::commands::word_length` meets its contract.
-- Assumes nothing.
use Rattle.std.proofs.Common.{rules, tests}
use Rattle.texts.specs.Commands.{is_blank}
use Rattle.texts.proofs.Figures.{place_found}
use Rattle.texts.proofs.commands.word_length.Goals as goal

pub returns : goal.returns
returns c = place_found is_blank c.args.text.now _ _ c.position-first.ensures.ran (cc) (λ x b q k. search (rules, tests)) c.unwrap_or.ensures
