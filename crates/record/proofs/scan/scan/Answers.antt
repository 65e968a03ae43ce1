-- `record::scan::scan` meets its contract. The invariant: what was counted so
-- far and what is left to read come to what the whole record comes to.
-- Assumes nothing.
use mathlib.Core.Path.{sym, ap, ◌∙◌}
use mathlib.Core.Bool.{not}
use native.Mathlib.Omega.{arith}
use lib.ListN.{length}
use Rattle.std.proofs.lemmas.Result.{err_from_is_err_and}
use Rattle.record.proofs.Scanning.{comes_of, nothing_read, stops_here, goes_on, onward, going_on, going_room, ends_early, ends_well, ends_counted, reads_on, is_after, is_before, ok_or_none}
use Rattle.record.proofs.scan.scan.Goals as goal

pub loop-state-init : goal.loop-state-init
loop-state-init c =
    (record { item = omega arith; givens = omega arith; moves = omega arith; checks = omega arith }, comes_of c.args.bytes.now)

pub returns-in_err-read-clause-refusal : goal.returns-in_err-read-clause-refusal
returns-in_err-read-clause-refusal c =
    let turn = c.loop-state in
    let p = err_from_is_err_and c.from_residual.result c.from_residual.ensures.1 in
    let q = ok_or_none _ _ _ c.in_err-read.ensures.value in
    rw (p.1, p.2, q.1) (nothing_read c.args.bytes.now turn.state c.loop-state-test.true _ _ turn.invariant.1 (sym q.0 ∙ c.read_item.ensures))

pub counted-requires : goal.counted-requires
counted-requires c =
    let turn = c.loop-state in
    going_room turn.state (length c.args.bytes.now) turn.invariant.0 c.loop-state-test.true (omega (arith, c.well_formed.0.1))

pub returns-in_err-state-clause-refusal : goal.returns-in_err-state-clause-refusal
returns-in_err-state-clause-refusal c =
    let turn = c.loop-state in
    let p = err_from_is_err_and c.from_residual-in_err-state.result c.from_residual-in_err-state.ensures.1 in
    let q = ok_or_none _ _ _ c.in_err-state.ensures.value in
    rw (p.1, p.2, q.1)
    (stops_here c.args.bytes.now turn.state c.loop-state-test.true _ _ turn.invariant.1 c.in_ok-read.read (sym c.in_ok-read.ensures.ok_part ∙ c.read_item.ensures) (sym q.0 ∙ c.counted.ensures))

pub loop-state-smaller : goal.loop-state-smaller
loop-state-smaller c =
    let turn = c.loop-state in
    let on = onward c.args.bytes.now turn.state c.loop-state-test.true _ _ turn.invariant.1 c.in_ok-read.read (sym c.in_ok-read.ensures.ok_part ∙ c.read_item.ensures) c.in_ok-state.state (sym c.in_ok-state.ensures.ok_part ∙ c.counted.ensures) in
    omega (arith, on)

pub loop-state-preserved : goal.loop-state-preserved
loop-state-preserved c =
    let turn = c.loop-state in
    let read = sym c.in_ok-read.ensures.ok_part ∙ c.read_item.ensures in
    let step = sym c.in_ok-state.ensures.ok_part ∙ c.counted.ensures in (
      going_on turn.state c.in_ok-state.state c.in_ok-read.read.item c.in_ok-read.read.next (sym step)
          (reads_on c.args.bytes.now turn.state c.loop-state-test.true _ _ turn.invariant.1 c.in_ok-read.read read) turn.invariant.0,
      goes_on c.args.bytes.now turn.state c.loop-state-test.true _ _ turn.invariant.1 c.in_ok-read.read read c.in_ok-state.state step,
    )

pub returns-then-ne-clause-refusal : goal.returns-then-ne-clause-refusal
returns-then-ne-clause-refusal c =
    let turn = c.loop-state in
    ends_early c.args.bytes.now turn.state c.loop-state-test.false _ _ turn.invariant.1 (is_before turn.state.phase c.if-ne.ensures)

pub returns-clause-refusal : goal.returns-clause-refusal
returns-clause-refusal c =
    let turn = c.loop-state in
    let t = is_after turn.state.phase (ap not c.if-ne.ensures) in
    ends_well c.args.bytes.now turn.state c.loop-state-test.false _ _ turn.invariant.1 t

pub returns-clause-counts : goal.returns-clause-counts
returns-clause-counts c =
    let turn = c.loop-state in
    let t = is_after turn.state.phase (ap not c.if-ne.ensures) in
    ends_counted c.args.bytes.now turn.state c.loop-state-test.false _ _ turn.invariant.1 t
