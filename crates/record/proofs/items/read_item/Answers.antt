-- `record::items::read_item` meets its contract: past the end nothing stands, an
-- item whose body ends too late is cut short, any other is what its group says.
-- Assumes nothing.
use Prim.Native.Nat.{◌+◌}
use mathlib.Core.Path.{sym, ap, ◌∙◌}
use Rattle.std.specs.Prelude.{Some}
use Rattle.record.specs.declared.Item.{Item}
use Rattle.record.specs.Code.Counting.{shape_of, read}
use Rattle.record.proofs.KindBytes.{read_past, read_none, read_short, read_whole}
use Rattle.record.proofs.items.read_item.Goals as goal

pub returns-in_err-get : goal.returns-in_err-get
returns-in_err-get c =
    c.from_residual.ensures ∙ sym (read_past c.args.bytes.now c.args.at c.in_err-get.ensures.lookup.3)

pub returns-in_err-form : goal.returns-in_err-form
returns-in_err-form c =
    let a = c.args in
    let kind = c.in_ok-get.ensures.lookup.3 in
    c.from_residual-in_err-form.ensures ∙ sym (read_none a.bytes.now a.at kind.0 (sym c.in_err-form.was ∙ c.shape.ensures ∙ ap shape_of (kind.1 0)))

pub returns-then-bytes-at : goal.returns-then-bytes-at
returns-then-bytes-at c =
    let a = c.args in
    let kind = c.in_ok-get.ensures.lookup.3 in
    sym (read_short a.bytes.now a.at kind.0 c.in_ok-form.form (sym c.in_ok-form.was ∙ c.shape.ensures ∙ ap shape_of (kind.1 0)) c.if-bytes-at.true)

pub returns : goal.returns
returns c =
    let a = c.args in
    let form = c.in_ok-form.form in
    let kind = c.in_ok-get.ensures.lookup.3 in
    ap (λ (i : Item). Some (read i (a.at + 1 + form.body))) c.item_at.ensures
    ∙ read_whole a.bytes.now a.at kind.0 form (sym c.in_ok-form.was ∙ c.shape.ensures ∙ ap shape_of (kind.1 0)) c.if-bytes-at.false
