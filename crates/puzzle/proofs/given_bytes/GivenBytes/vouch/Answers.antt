-- `puzzle::given_bytes::GivenBytes::vouch` meets its contract: 22, then 23 and 24, then 25, then 26 and 27.
-- Assumes nothing.
use Prim.Native.Nat.{ℕ, ◌≤◌, ◌<◌}
use mathlib.Core.Path.{◌≡◌, refl, sym, ◌∙◌}
use mathlib.Core.List.{List}
use native.Mathlib.Omega.{arith}
use borrow.Author.Tests.{eqb-false, le-leb, lt-leb}
use lib.Dec.{leb}
use lib.ListN.{length}
use Rattle.puzzle.specs.declared.Given.{Given}
use Rattle.puzzle.specs.declared.error.WellPosedError.{WellPosedError}
use Rattle.puzzle.specs.Refusals.{refusal, accepted, first_refused, or_else}
use Rattle.puzzle.specs.Errors.{well_posed_refusal}
use Rattle.puzzle.specs.Code.GivenBytes.{givens_in}
use Rattle.puzzle.specs.Code.Rows.{flat}
use Rattle.puzzle.specs.Vouch.{nothing_left, solution_digit, solution_conflict, givens_match, vouch}
use Rattle.puzzle.proofs.Accepted.{if_not}
use Rattle.puzzle.proofs.Refusals.{refused_if_lem, or_else_by, or_else_past, or_else_error, told_by}
use Rattle.puzzle.proofs.GivenBytes.{length_givens}
use Rattle.puzzle.proofs.given_bytes.GivenBytes.vouch.Goals as goal

module _ (gs : List Given) (s : List ℕ) where
  none_left : 81 ≤ length gs → refusal 22 0 0 ≡ vouch gs s
  unfolding vouch nothing_left
  none_left h =
      sym (or_else_by _ _ (refusal 22 0 0) (refused_if_lem (leb 81 (length gs)) (refusal 22 0 0) (le-leb 81 (length gs) h)) (eqb-false 22 0 refl))

  module _ (h : length gs < 81) where
    -- what 23 to 27 say
    some_left : vouch gs s ≡ or_else (first_refused (solution_digit s) 81 1) (or_else (first_refused (solution_conflict s) 81 1) (givens_match s gs 1))
    unfolding vouch nothing_left
    some_left = or_else_past _ _ (if_not (leb 81 (length gs)) (refusal 22 0 0) (lt-leb 81 (length gs) h))

    not_filled : (e : WellPosedError) → well_posed_refusal e ≡ first_refused (solution_digit s) 81 1 → well_posed_refusal e ≡ vouch gs s
    not_filled e p = or_else_error _ _ e p ∙ sym some_left

    module _ (p : accepted ≡ first_refused (solution_digit s) 81 1) where
      full : vouch gs s ≡ or_else (first_refused (solution_conflict s) 81 1) (givens_match s gs 1)
      full = some_left ∙ or_else_past _ _ (sym p)

      in_conflict : (e : WellPosedError) → well_posed_refusal e ≡ first_refused (solution_conflict s) 81 1 → well_posed_refusal e ≡ vouch gs s
      in_conflict e q = or_else_error _ _ e q ∙ sym full

      to_match : accepted ≡ first_refused (solution_conflict s) 81 1 → givens_match s gs 1 ≡ vouch gs s
      to_match q = sym (full ∙ or_else_past _ _ (sym q))

pub returns-then-self-ge-CELLS : goal.returns-then-self-ge-CELLS
returns-then-self-ge-CELLS c =
    let self = c.args.self in
    none_left (givens_in self.layout self.bytes.now self.count) (flat c.args.rows)
    (omega (arith, length_givens self.layout self.bytes.now self.count, c.if-self-ge-CELLS.true))

pub returns-in_err-filled : goal.returns-in_err-filled
returns-in_err-filled c =
    let self = c.args.self in
    let e = c.in_err-filled.field-0.0 in
    told_by _ e _ c.from_residual.ensures.1
    (not_filled (givens_in self.layout self.bytes.now self.count) (flat c.args.rows)
    (omega (arith, length_givens self.layout self.bytes.now self.count)) e c.in_err-filled.ensures)

pub returns-in_err-consistent : goal.returns-in_err-consistent
returns-in_err-consistent c =
    let self = c.args.self in
    let e = c.in_err-consistent.field-0.0 in
    told_by _ e _ c.from_residual-in_err-consistent.ensures.1
    (in_conflict (givens_in self.layout self.bytes.now self.count) (flat c.args.rows)
    (omega (arith, length_givens self.layout self.bytes.now self.count)) c.in_ok-filled.ensures e c.in_err-consistent.ensures)

pub returns : goal.returns
returns c =
    let self = c.args.self in
    c.match_rows.ensures
    ∙ to_match (givens_in self.layout self.bytes.now self.count) (flat c.args.rows)
    (omega (arith, length_givens self.layout self.bytes.now self.count)) c.in_ok-filled.ensures c.in_ok-consistent.ensures
