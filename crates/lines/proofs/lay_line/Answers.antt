-- `lines::lay_line` meets its contract: what is left to lay.
-- Assumes nothing.
use Prim.Native.Nat.{◌+◌}
use mathlib.Core.Path.{refl, ap, ◌∙◌}
use mathlib.Core.List.{[], ◌∷◌}
use native.Mathlib.Omega.{arith}
use lib.ListN.{set}
use Rattle.sudoku.proofs.Listed.{length_listed}
use Rattle.record.proofs.Laying.{laying_start, laying_more, laying_end}
use Rattle.lines.specs.Lines.{character_at, line_of}
use Rattle.journal.proofs.Stores.{one_laid}
use Rattle.board.proofs.Values.{digit_small}
use Rattle.lines.proofs.Writing.{characters_left, characters_turn, characters_none}
use Rattle.lines.proofs.lay_line.Goals as goal

pub loop-index-init : goal.loop-index-init
unfolding line_of
loop-index-init c =
    let b = c.args.board.now in
    laying_start c.args.output.now 0 (line_of b) (omega (arith, c.requires.1, length_listed (character_at b.given b.digits) 81 1))

pub character-requires : goal.character-requires
character-requires c =
    let b = c.args.board.now in
    digit_small b.digits b.given (c.loop-index.index + 1) c.requires.0 (omega arith) (omega (arith, c.loop-index-test.true))

pub bounds-output-index : goal.bounds-output-index
bounds-output-index c = omega (arith, c.requires.1, c.loop-index.auto.output, c.loop-index-test.true)

pub loop-index-preserved : goal.loop-index-preserved
loop-index-preserved c =
    let b = c.args.board.now in
    let f = character_at b.given b.digits in
    let turn = c.loop-index in
    laying_more _ _ _ _ _ _ turn.invariant (f (turn.index + 1) ∷ []) (characters_left f (turn.index + 1)) _ _ (characters_turn f turn.index c.loop-index-test.true) refl
    (ap (set turn.output turn.index) c.character.ensures ∙ one_laid turn.output turn.index (f (turn.index + 1)) (omega (arith, c.requires.1, turn.auto.output, c.loop-index-test.true)))

pub returns : goal.returns
returns c =
    let b = c.args.board.now in
    (laying_end _ _ _ _ _ _ c.loop-index.invariant (characters_none (character_at b.given b.digits) c.loop-index.index c.loop-index-test.false)).1
