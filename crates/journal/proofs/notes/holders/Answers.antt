-- `journal::notes::holders` meets its contract. The loop's invariant: the mask is that of the cells passed so far.
-- Assumes nothing.
use mathlib.Core.Path.{◌≡◌, refl, sym, ap, ◌∙◌}
use mathlib.Core.List.{[], ◌∷◌, ◌++◌}
use native.Mathlib.Omega.{arith}
use borrow.Author.Rules.{rules}
use lib.ListN.{length}
use Rattle.std.proofs.lemmas.List.{append-nil, append_assoc, length-append, nil_from_length}
use Rattle.journal.specs.State.{holders}
use Rattle.journal.proofs.CellLoops.{holders_fit}
use Rattle.journal.proofs.notes.holders.Goals as goal

pub loop-cell-init : goal.loop-cell-init
unfolding holders
loop-cell-init c = ([], sym (append-nil _ ∙ (cc)), refl)

pub with_bit-mask-requires : goal.with_bit-mask-requires
with_bit-mask-requires c =
    let i = c.loop-cell.invariant in
    let twenty : length c.args.cells ≡ 20 = search rules in
    rw i.2 (holders_fit _ i.0 _ (omega (arith, twenty, ap length i.1, length-append c.loop-cell.cell-iterator.iter.rest.now i.0)))

pub loop-cell-preserved : goal.loop-cell-preserved
unfolding holders
loop-cell-preserved c =
    let i = c.loop-cell.invariant in (
      c.in-Some.cell.now ∷ i.0,
      i.1 ∙ ap (λ l. l ++ i.0) c.in-Some.ensures.steps ∙ append_assoc _ _ i.0,
      rw (c.with_bit-mask.ensures, c.note_at.ensures, c.from.ensures, i.2),
    )

pub returns : goal.returns
returns c =
    let i = c.loop-cell.invariant in
    let twenty : length c.args.cells ≡ 20 = search rules in
    let all : c.args.cells ≡ i.0 = i.1 ∙ ap (λ l. l ++ i.0) (nil_from_length _ c.in-None.ensures.steps.0) in
    (i.2 ∙ ap (holders _ _) (sym all), rw i.2 (holders_fit _ i.0 _ (omega (arith, twenty, ap length all))))
