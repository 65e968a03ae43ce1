-- `note::digits` meets its contract. The loop's invariant: the marks
-- from `mark` on, stored from place n on, complete the answer.
-- Assumes nothing.
use Prim.Native.Nat.{ℕ, ◌<◌, ◌+◌, ◌-◌}
use mathlib.Core.Path.{◌≡◌, sym, ◌∙◌}
use mathlib.Core.Bool.{true, false}
use mathlib.Core.List.{List}
use native.Mathlib.Nat.{zero-add}
use native.Mathlib.Numerals.{add-one}
use native.Mathlib.Omega.{arith}
use lib.ListN.{length, set, replicate}
use lib.Seq.{sets, sets-eq}
use Rattle.std.proofs.lemmas.List.{drop-replicate}
use Rattle.sudoku.specs.Tests.{among}
use Rattle.sudoku.proofs.Walks.{among_more, among_skips, among_all}
use Rattle.note.specs.Note.{contains, marks, len_of, digits_of}
use Rattle.note.proofs.Note.{len_le}
use Rattle.note.proofs.digits.Goals as goal
use Rattle.note.proofs.digits.Goals.{then-contains, else-contains}

-- the marks stored one after another over nine zeros
stored : (note : ℕ) → digits_of note ≡ sets (replicate 9 0) 0 (marks note)
unfolding digits_of len_of
stored note =
    sym
    (sets-eq (marks note) (replicate 9 0) 0 (rw zero-add (len_le note))
    ∙ rw (zero-add (length (marks note)), drop-replicate {X = ℕ} (length (marks note)) 9 0))

-- a turn stores its digit where the mark stands, and else nothing
module _ (note : ℕ) (l : List ℕ) (n d : ℕ) (u : d < 10) where
  turn_kept : contains note d ≡ true → sets l n (among (contains note) (10 - d) d) ≡ sets (set l n d) (n + 1) (among (contains note) (10 - (d + 1)) (d + 1))
  turn_kept h = rw (among_more (contains note) 10 d u h, add-one n)

  turn_skipped : contains note d ≡ false → sets l n (among (contains note) (10 - d) d) ≡ sets l n (among (contains note) (10 - (d + 1)) (d + 1))
  turn_skipped h = rw (among_skips (contains note) 10 d u h)

pub loop-mark-init : goal.loop-mark-init
unfolding marks
loop-mark-init c = (omega arith, stored _)

pub loop-mark-preserved : goal.loop-mark-preserved
loop-mark-preserved c =
    let i = c.loop-mark.invariant in
    let e = sym c.contains.ensures in
    elim c.if-contains.branch [
      | then-contains w ↦ (omega arith, rw (w.marks-is, w.n-is) (i.1 ∙ turn_kept _ _ _ _ (omega arith) (e ∙ w.if-contains.true)))
      | else-contains w ↦ (omega arith, rw (w.marks-is, w.n-is) (i.1 ∙ turn_skipped _ _ _ _ (omega arith) (e ∙ w.if-contains.false)))
    ]

pub returns : goal.returns
returns c = let m = c.loop-mark.mark in sym (c.loop-mark.invariant.1 ∙ rw (among_all (contains c.args.note) 10 m (omega arith)))
