-- `lines::line_digits` meets its contract: 36, then 37, then what the characters say.
-- Assumes nothing.
use Prim.Native.Nat.{ℕ, ◌+◌, ◌-◌, ◌<◌}
use mathlib.Core.Path.{◌≡◌, refl, sym, ap, ◌∙◌}
use mathlib.Core.List.{List}
use native.Mathlib.Omega.{arith}
use borrow.Author.Tests.{eqb-false}
use lib.ListN.{length, set, take, length-set}
use Rattle.sudoku.specs.Tests.{listed}
use Rattle.sudoku.proofs.Listed.{fill_more, fill_all}
use Rattle.puzzle.specs.Refusals.{refusal, accepted}
use Rattle.puzzle.proofs.Refusals.{walk_refused, walk_more, walk_all}
use Rattle.lines.specs.Lines.{other_sort}
use Rattle.lines.proofs.Reading.{entry, entries, long_line, no_line, a_line, other_here, other_none}
use Rattle.lines.proofs.line_digits.Goals as goal

-- character n stands at n less one
at_index : (line : List ℕ) (i : ℕ) → entry line i ≡ entry line (i + 1 - 1)
at_index line i = ap (entry line) {x = i} {y = i + 1 - 1} (omega arith)

pub returns-then-not-is_line-clause-refusal : goal.returns-then-not-is_line-clause-refusal
returns-then-not-is_line-clause-refusal c = sym (no_line c.args.line.now (sym c.is_line.ensures ∙ c.if-not-is_line.true))

pub bounds-line-i : goal.bounds-line-i
bounds-line-i c = omega (arith, long_line c.args.line.now (sym c.is_line.ensures ∙ c.if-not-is_line.false), c.loop-i-test.true)

pub loop-i-init : goal.loop-i-init
unfolding listed
loop-i-init c = record { tested = refl; long = refl; filled = refl }

pub returns-in_default-clause-refusal : goal.returns-in_default-clause-refusal
returns-in_default-clause-refusal c =
    let line = c.args.line.now in
    let n = c.loop-i.i + 1 in
    let here = other_here line n _ (c.in_default.ensures.value ∙ at_index line c.loop-i.i) (omega arith) in
    sym
    (a_line line (sym c.is_line.ensures ∙ c.if-not-is_line.false)
    ∙ c.loop-i.invariant.tested
    ∙ walk_refused (other_sort line) 82 n (refusal 37 n 0) (omega (arith, c.loop-i-test.true)) (sym here) (eqb-false 37 0 refl))

pub loop-i-preserved : goal.loop-i-preserved
loop-i-preserved c =
    let line = c.args.line.now in
    let turn = c.loop-i in
    let n = turn.i + 1 in
    let value = c.in-Some.ensures.value in
    let none = other_none line n _ (value ∙ at_index line turn.i) c.in-Some.ensures.digit in
    let room : turn.i < length turn.digits = omega (arith, turn.invariant.long, c.loop-i-test.true) in
    record {
      tested = turn.invariant.tested ∙ walk_more (other_sort line) 82 n accepted (omega (arith, c.loop-i-test.true)) (sym none) refl;
      long = length-set turn.digits turn.i _ ∙ turn.invariant.long;
      filled = ap (λ (v : ℕ). take n (set turn.digits turn.i v)) value ∙ fill_more (entry line) turn.digits turn.i room turn.invariant.filled;
    }

pub returns-clause-refusal : goal.returns-clause-refusal
returns-clause-refusal c =
    let line = c.args.line.now in
    sym
    (a_line line (sym c.is_line.ensures ∙ c.if-not-is_line.false)
    ∙ c.loop-i.invariant.tested
    ∙ walk_all (other_sort line) 82 (c.loop-i.i + 1) (omega (arith, c.loop-i-test.false)))

pub returns-clause-digits : goal.returns-clause-digits
returns-clause-digits c =
    let line = c.args.line.now in
    fill_all (entry line) c.loop-i.digits 81 c.loop-i.i c.loop-i.invariant.long c.loop-i-test.false (omega (arith, c.loop-i.auto.i-end)) c.loop-i.invariant.filled ∙ entries line
