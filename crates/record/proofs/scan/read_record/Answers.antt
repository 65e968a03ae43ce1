-- `record::scan::read_record` meets its contract: 17 by the scan, 18 by its counts,
-- 19 over the givens where they stand as items, then 20 and 21, then 22 to 27.
-- Assumes nothing.
use mathlib.Core.Path.{refl, sym, ap, ◌∙◌}
use Rattle.std.proofs.lemmas.Result.{err_from_is_err_and}
use Rattle.puzzle.specs.Code.Rows.{flat}
use Rattle.record.proofs.WriteBack.{bytes_fit}
use Rattle.record.specs.Errors.{reopen_refusal}
use Rattle.record.proofs.Errors.{reopen_numbered}
use Rattle.record.proofs.ReadRecord.{refused_17, refused_18, refused_19, refused_20, past_21}
use Rattle.record.proofs.scan.read_record.Goals as goal

pub returns-in_err-s-clause-refusal : goal.returns-in_err-s-clause-refusal
returns-in_err-s-clause-refusal c =
    let a = c.args in
    let p = err_from_is_err_and c.from_residual.result c.from_residual.ensures.1 in
    rw (p.1, p.2) (refused_17 a.bytes.now (flat a.rows) _ c.in_err-s.ensures.refusal (reopen_numbered c.in_err-s.field-0.0))

pub returns-then-is_oversized-clause-refusal : goal.returns-then-is_oversized-clause-refusal
returns-then-is_oversized-clause-refusal c =
    let a = c.args in
    let read = c.in_ok-s.ensures in
    refused_18 a.bytes.now (flat a.rows) read.refusal c.in_ok-s.s read.counts (sym c.is_oversized.ensures ∙ c.if-is_oversized.true)

pub returns-then-not-is_ascending-clause-refusal : goal.returns-then-not-is_ascending-clause-refusal
returns-then-not-is_ascending-clause-refusal c =
    let a = c.args in
    let read = c.in_ok-s.ensures in
    ap reopen_refusal c.into.ensures
    ∙ refused_19 a.bytes.now (flat a.rows) read.refusal c.in_ok-s.s read.counts (sym c.is_oversized.ensures ∙ c.if-is_oversized.false)
    (bytes_fit _ c.type_inv.bytes)
    (sym c.is_ascending.ensures ∙ c.if-not-is_ascending.true)

pub returns-in_err-miscounted-clause-refusal : goal.returns-in_err-miscounted-clause-refusal
returns-in_err-miscounted-clause-refusal c =
    let a = c.args in
    let read = c.in_ok-s.ensures in
    let p = err_from_is_err_and c.from_residual-in_err-miscounted.result c.from_residual-in_err-miscounted.ensures.1 in
    rw (p.1, p.2)
    (refused_20 a.bytes.now (flat a.rows) read.refusal c.in_ok-s.s read.counts (sym c.is_oversized.ensures ∙ c.if-is_oversized.false)
    (bytes_fit _ c.type_inv.bytes)
    (sym c.is_ascending.ensures ∙ c.if-not-is_ascending.false) _ c.in_err-miscounted.ensures (reopen_numbered c.in_err-miscounted.field-0.0))

pub returns-in_err-vouch-clause-refusal : goal.returns-in_err-vouch-clause-refusal
returns-in_err-vouch-clause-refusal c =
    let a = c.args in
    let read = c.in_ok-s.ensures in
    let p = err_from_is_err_and c.from_residual-in_err-vouch.result c.from_residual-in_err-vouch.ensures.1 in
    rw (p.1, p.2)
    (c.in_err-vouch.ensures
    ∙ past_21 a.bytes.now (flat a.rows) read.refusal c.in_ok-s.s read.counts (sym c.is_oversized.ensures ∙ c.if-is_oversized.false)
    (bytes_fit _ c.type_inv.bytes)
    (sym c.is_ascending.ensures ∙ c.if-not-is_ascending.false) _ c.in_ok-miscounted.ensures refl)

pub returns-clause-refusal : goal.returns-clause-refusal
returns-clause-refusal c =
    let a = c.args in
    let read = c.in_ok-s.ensures in
    c.in_ok-vouch.ensures
    ∙ past_21 a.bytes.now (flat a.rows) read.refusal c.in_ok-s.s read.counts (sym c.is_oversized.ensures ∙ c.if-is_oversized.false)
    (bytes_fit _ c.type_inv.bytes)
    (sym c.is_ascending.ensures ∙ c.if-not-is_ascending.false) _ c.in_ok-miscounted.ensures refl
