-- `puzzle::units::step_clear` meets its contract. The invariant: what
-- was found so far, and what is left of the walk, make the whole walk.
-- Assumes nothing.
use Prim.Native.Nat.{ℕ, ◌+◌, ◌-◌, ◌<◌}
use mathlib.Core.Path.{◌≡◌, ap, ◌∙◌}
use mathlib.Core.Bool.{Bool, not, ◌&&◌, ◌||◌}
use mathlib.Core.List.{List}
use native.Mathlib.Nat.{add_comm}
use native.Mathlib.Omega.{arith}
use lib.Dec.{eqb}
use lib.ListN.{length, get_or, take, drop, length-take, length-drop}
use lib.Seq.{get_or-take, get_or-drop}
use Rattle.std.proofs.lemmas.List.{length_push}
use Rattle.std.proofs.lemmas.Slice.Zip.{zip_turn, zip_end}
use Rattle.sudoku.specs.Tests.{both, either}
use Rattle.sudoku.proofs.Walks.{and_both, or_either}
use Rattle.puzzle.specs.Code.Units.{step_clear}
use Rattle.puzzle.proofs.Columns.{clear_starts, clear_more, clear_all}
use Rattle.puzzle.proofs.units.step_clear.Invariants.{test}
use Rattle.puzzle.proofs.units.step_clear.Goals as goal

-- the entries of which each is compared with the one `step` before it
abbrev moved : List ℕ → ℕ → List ℕ
moved grid step = take (81 - step) (drop step grid)

length_moved : (grid : List ℕ) (step : ℕ) → length grid ≡ 81 → length (moved grid step) ≡ 81 - step
length_moved grid step n = omega (arith, length-take (81 - step) (drop step grid), length-drop step grid)

moved_at : (grid : List ℕ) (step i : ℕ) → i < 81 - step → get_or (moved grid step) i 0 ≡ get_or grid (i + step) 0
moved_at grid step i h =
    get_or-take (81 - step) (drop step grid) i 0 h ∙ get_or-drop step grid i 0 ∙ ap (λ (k : ℕ). get_or grid k 0) (add_comm step i)

-- a turn's test of the entries a and b
turn_test : (grid : List ℕ) (step i a b : ℕ) (clear : Bool) → i < 81 - step → a ≡ get_or grid i 0 → b ≡ get_or (moved grid step) i 0
    → (clear && (eqb a 0 || not (eqb a b))) ≡ both clear (test grid step i)
turn_test grid step i a b clear h p q =
    and_both clear (eqb a 0 || not (eqb a b))
    ∙ ap (both clear) (or_either (eqb a 0) (not (eqb a b)) ∙ (λ j. either (eqb (p j) 0) (not (eqb (p j) ((q ∙ moved_at grid step i h) j)))))

pub loop-digit-init : goal.loop-digit-init
unfolding step_clear
loop-digit-init c = clear_starts (test c.args.digits.now c.args.step) (81 - c.args.step)

pub loop-digit-preserved : goal.loop-digit-preserved
loop-digit-preserved c =
    let digits = c.args.digits.now in
    let step = c.args.step in
    let turn = c.loop-digit in
    let here = zip_turn digits (moved digits step) turn.yielded c.into_iter-digit-iterator.result turn.digit-iterator c.next.new.self c.next.result (cc) (cc) turn.yielded_by (c.in-Some.digit, c.in-Some.other) c.in-Some.is c.next.ensures.steps in
    let within : length turn.yielded < 81 - step = omega (arith, here.1, length_moved digits step c.told-digits) in
    rw (length_push turn.yielded (c.in-Some.digit, c.in-Some.other))
    (clear_more (test digits step) _ turn.clear _ (81 - step) (length turn.yielded) within
    (turn_test digits step (length turn.yielded) _ _ turn.clear within (here.2 0) (here.3 0)) turn.invariant)

pub returns : goal.returns
returns c =
    let digits = c.args.digits.now in
    let step = c.args.step in
    let turn = c.loop-digit in
    let n = zip_end digits (moved digits step) turn.yielded c.into_iter-digit-iterator.result turn.digit-iterator c.next.new.self c.next.result (cc) (cc) turn.yielded_by c.in-None.is c.next.ensures.steps in
    clear_all (test digits step) _ turn.clear (81 - step) (length turn.yielded) (omega (arith, n, length_moved digits step c.told-digits)) turn.invariant
