-- `puzzle::given_bytes::GivenBytes::match_rows` meets its contract: what is left to test from `i` on decides.
-- Assumes nothing.
use Prim.Native.Nat.{◌+◌}
use mathlib.Core.Path.{refl, sym, ap, ◌∙◌}
use native.Mathlib.Omega.{arith}
use native.Mathlib.Nat.{sub-zero}
use Rattle.puzzle.specs.declared.Given.{Given}
use Rattle.puzzle.specs.Refusals.{accepted}
use Rattle.puzzle.specs.Errors.{well_posed_refusal}
use Rattle.puzzle.specs.Code.GivenBytes.{given_in, givens_in}
use Rattle.puzzle.specs.Code.Rows.{flat}
use Rattle.puzzle.specs.Vouch.{given_matches}
use Rattle.puzzle.proofs.Refusals.{walk_refused, walk_more, walk_all, told_by, refuses}
use Rattle.puzzle.proofs.GivenBytes.{match_at, matches_walk}
use Rattle.puzzle.proofs.given_bytes.GivenBytes.match_rows.Goals as goal

pub loop-i-init : goal.loop-i-init
unfolding givens_in
loop-i-init c =
    let self = c.args.self in
    rw sub-zero (matches_walk (given_in self.layout self.bytes.now) (flat c.args.rows) self.count 0)

pub returns-in_err-given_matches : goal.returns-in_err-given_matches
returns-in_err-given_matches c =
    let self = c.args.self in
    let grid = flat c.args.rows in
    let turn = c.loop-i in
    let e = c.in_err-given_matches.field-0.0 in
    told_by _ e _ c.from_residual.ensures.1
    (sym (turn.invariant ∙ walk_refused (match_at (given_in self.layout self.bytes.now) grid) self.count turn.i
    (well_posed_refusal e) (omega arith)
    (c.in_err-given_matches.ensures ∙ ap (λ (g : Given). given_matches grid g (turn.i + 1)) c.given.ensures) (refuses e)))

pub loop-i-preserved : goal.loop-i-preserved
loop-i-preserved c =
    let self = c.args.self in
    let grid = flat c.args.rows in
    let turn = c.loop-i in
    turn.invariant ∙ walk_more (match_at (given_in self.layout self.bytes.now) grid) self.count turn.i accepted (omega arith)
    (c.in_ok-given_matches.ensures ∙ ap (λ (g : Given). given_matches grid g (turn.i + 1)) c.given.ensures) refl

pub returns : goal.returns
returns c =
    let self = c.args.self in
    let turn = c.loop-i in
    sym (turn.invariant ∙ walk_all (match_at (given_in self.layout self.bytes.now) (flat c.args.rows)) self.count turn.i (omega arith))
