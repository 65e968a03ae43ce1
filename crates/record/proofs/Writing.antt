-- What writing tests, and what it answers: 1, 2 and 14 one after the other, then 34 by the record's length.
-- Assumes nothing.
use Prim.Native.Nat.{ℕ}
use mathlib.Core.Path.{◌≡◌, refl, sym, ap, ◌∙◌}
use mathlib.Core.Bool.{Bool}
use mathlib.Core.List.{List, []}
use native.Mathlib.Omega.{arith}
use borrow.Author.Tests.{eq-eqb, ne_eqb}
use lib.Dec.{eqb}
use lib.ListN.{length}
use Rattle.sudoku.specs.Tests.{first, both}
use Rattle.sudoku.proofs.Walks.{pick_true, pick_false}
use Rattle.puzzle.specs.declared.Refusal.{Refusal}
use Rattle.std.specs.Prelude.{Result, Ok, Err, IfOk, OnErr, MatchResult}
use Rattle.puzzle.specs.Refusals.{told, accepted, is_accepted, or_else, first_refused}
use Rattle.puzzle.proofs.Refusals.{or_else_by, or_else_passed}
use Rattle.journal.specs.Limits.{journal_bytes, check_memory}
use Rattle.journal.specs.Bytes.{over}
use Rattle.board.specs.declared.Board.{Board}
use Rattle.board.specs.declared.error.PlayError.{PlayError}
use Rattle.board.specs.Board.{lent_tests}
use Rattle.board.specs.Errors.{play_number, play_refusal}
use Rattle.board.proofs.Told.{has_number}
use Rattle.play.specs.Play.{unsound_slot, journal_refusal, unsound_check}
use Rattle.play.specs.declared.sound.Unsound.{Unsound}
use Rattle.play.specs.Unsound.{unsound_refusal}
use Rattle.play.proofs.Accepted.{lent_refuses, slots_decide}
use Rattle.play.proofs.Accepted.{unsound_numbered}
use Rattle.record.specs.declared.Written.{Written}
use Rattle.record.specs.Write.{unwritable, Wrote, wrote, wrote_by}

-- ---- 1, 2 and 14

module _ (b : Board) (journal checks : List ℕ) (fits : Bool) (same : fits ≡ both (eqb (length journal) journal_bytes) (eqb (length checks) check_memory)) where
  decided : (r : Refusal) → r ≡ journal_refusal fits b journal → unwritable b journal checks ≡ or_else r (first_refused (unsound_check b.given checks) b.checks 1)
  unfolding unwritable
  decided r e =
      ap (λ (x : Refusal). or_else x (first_refused (unsound_check b.given checks) b.checks 1))
      (sym (e ∙ ap (λ (t : Bool). journal_refusal t b journal) same))

  pub lent_told : (e : PlayError) → play_number e ≡ first (lent_tests fits b []) → play_refusal e ≡ unwritable b journal checks
  lent_told e p =
      let some : play_number e ≡ 0 → ⊥ = λ z. omega (arith, has_number e, z) in
      sym (decided (play_refusal e) (lent_refuses fits b journal (play_number e) p some) ∙ or_else_by (play_refusal e) _ (play_refusal e) refl some)

  module _ (two : 0 ≡ first (lent_tests fits b [])) where
    pub slots_told : (e : Unsound) → unsound_refusal e ≡ first_refused (unsound_slot b.given journal) b.made 1 → unsound_refusal e ≡ unwritable b journal checks
    slots_told e p =
        let r = unsound_refusal e in
        sym (decided r (p ∙ slots_decide fits b journal 0 two refl) ∙ or_else_by r _ r refl (unsound_numbered e))

    pub checks_told : accepted ≡ first_refused (unsound_slot b.given journal) b.made 1 → first_refused (unsound_check b.given checks) b.checks 1 ≡ unwritable b journal checks
    checks_told p = sym (decided accepted (p ∙ slots_decide fits b journal 0 two refl) ∙ or_else_passed accepted _ refl)

-- ---- what a call that writes bytes answers

module _ (r : Refusal) (bytes output : List ℕ) where
  pub wrote_nothing : (x : Refusal) → r ≡ x → (x.number ≡ 0 → ⊥) → wrote x 0 output ≡ wrote_by r bytes output
  unfolding wrote_by is_accepted
  wrote_nothing x w n =
      sym
      (pick_false (is_accepted r) _ _ (ap is_accepted w ∙ ne_eqb x.number 0 n)
      ∙ ap (λ (y : Refusal). wrote y 0 output) w)

  pub wrote_bytes : r.number ≡ 0 → wrote accepted (length bytes) (over output 0 bytes) ≡ wrote_by r bytes output
  unfolding wrote_by is_accepted
  wrote_bytes z = sym (pick_true (is_accepted r) _ _ (eq-eqb r.number 0 z))

-- by what was told: the bytes and how many there are, or the error and what stayed
pub told_wrote : {E : Type 0} (f : E → Refusal) (numbered : (e : E) → (f e).number ≡ 0 → ⊥) (r : Refusal) (bytes output after : List ℕ)
    (outcome : Result ℕ E) (answer : Written) → told f outcome ≡ r
    → IfOk outcome (λ n. (n ≡ length bytes) × (after ≡ over output 0 bytes)) → OnErr outcome (after ≡ output)
    → MatchResult outcome (λ n. answer ≡ record { refusal = accepted; length = n }) (λ e. (answer.refusal ≡ f e) × (answer.length ≡ 0))
    → (answer ≡ (wrote_by r bytes output).answer) × (after ≡ (wrote_by r bytes output).output)
told_wrote f numbered r bytes output after (Ok n) answer why laid kept told_ok =
    let w = wrote_bytes r bytes output (ap (λ (x : Refusal). x.number) (sym why)) in
    (told_ok ∙ (λ i. (wrote accepted (laid.0 i) output).answer) ∙ ap (λ (x : Wrote). x.answer) w, laid.1 ∙ ap (λ (x : Wrote). x.output) w)
told_wrote f numbered r bytes output after (Err e) answer why laid kept told_err =
    let w = wrote_nothing r bytes output (f e) (sym why) (numbered e) in
    ((λ i. (wrote (told_err.0 i) (told_err.1 i) output).answer) ∙ ap (λ (x : Wrote). x.answer) w, kept ∙ ap (λ (x : Wrote). x.output) w)
