-- Reading a record before any move is performed, from what a scan of it answers:
-- which of 17 to 27 is given, and that the givens stand in the bytes as items.
-- Assumes nothing.
use Prim.Native.Nat.{ℕ}
use mathlib.Core.Path.{◌≡◌, refl, sym, ap, ◌∙◌}
use mathlib.Core.Bool.{true, false, not}
use mathlib.Core.List.{List, [], ◌∷◌, ◌++◌, map}
use borrow.Author.Tests.{eqb-false}
use lib.ListN.{length}
use Rattle.sudoku.specs.Tests.{listed}
use Rattle.sudoku.proofs.Walks.{not_is_true, not_is_false}
use Rattle.sudoku.proofs.Each.{Each}
use Rattle.puzzle.specs.declared.Given.{Given as Setters}
use Rattle.puzzle.specs.declared.Layout.TheVariants.{Items}
use Rattle.puzzle.specs.declared.Refusal.{Refusal}
use Rattle.puzzle.specs.Refusals.{refusal, accepted, refused_if, or_else}
use Rattle.puzzle.specs.Givens.{ascending}
use Rattle.puzzle.specs.Code.GivenBytes.{givens_at, givens_in}
use Rattle.puzzle.specs.Vouch.{vouch}
use Rattle.puzzle.proofs.Accepted.{if_not}
use Rattle.puzzle.proofs.Refusals.{refused_if_lem, or_else_by, or_else_passed, or_else_past}
use Rattle.puzzle.proofs.GivenBytes.{item_next, in_items}
use Rattle.record.specs.declared.Scanned.{Scanned}
use Rattle.record.specs.Items.{Parts, encode, encode_all, given_item}
use Rattle.record.specs.Scan.{malformed, parts_of_bytes}
use Rattle.record.specs.Reopen.{oversized, miscounted, unreadable}
use Rattle.record.specs.Code.Counting.{counts_of, is_oversized, miscounted_by}
use Rattle.record.proofs.WriteBack.{IsByte, bytes_record}
use Rattle.record.proofs.Lengths.{record_joined}

-- ---- the givens of a record, read where its items stand

givens_at_lem : (gs : List Setters) (rest : List ℕ) → givens_at (encode_all (map given_item gs) ++ rest) 1 4 (length gs) ≡ gs
unfolding encode_all given_item encode givens_at listed
givens_at_lem [] rest = refl
givens_at_lem (g ∷ gs) rest =
    item_next 1 g.row g.column g.digit (encode_all (map given_item gs) ++ rest) (length gs)
    ∙ ap (λ (l : List Setters). g ∷ l) (givens_at_lem gs rest)

pub givens_read : (bytes : List ℕ) → Each IsByte bytes → malformed bytes ≡ accepted
    → givens_in Items bytes (length (parts_of_bytes bytes).givens) ≡ (parts_of_bytes bytes).givens
givens_read bytes are h =
    let p = parts_of_bytes bytes in
    in_items bytes (length p.givens)
    ∙ ap (λ (l : List ℕ). givens_at l 1 4 (length p.givens)) (sym (bytes_record bytes are h) ∙ record_joined p)
    ∙ givens_at_lem p.givens _

-- ---- what a scan answers

module _ (bytes solution : List ℕ) where
  abbrev parts : Parts
  parts = parts_of_bytes bytes

  -- what 19 to 27 say, what 20 to 27 say
  abbrev from19 : Refusal
  from19 = or_else (refused_if (not (ascending parts.givens)) (refusal 19 0 0)) (or_else (miscounted parts) (vouch parts.givens solution))

  abbrev from20 : Refusal
  from20 = or_else (miscounted parts) (vouch parts.givens solution)

  pub refused_17 : (r : Refusal) → r ≡ malformed bytes → (r.number ≡ 0 → ⊥) → r ≡ unreadable bytes solution
  unfolding unreadable
  refused_17 r e n = sym (or_else_by (malformed bytes) _ r (sym e) n)

  module _ (well : accepted ≡ malformed bytes) (s : Scanned) (counts : s ≡ counts_of parts) where
    past_17 : unreadable bytes solution ≡ or_else (oversized parts) from19
    unfolding unreadable
    past_17 = or_else_past (malformed bytes) _ (sym well)

    pub refused_18 : is_oversized s ≡ true → refusal 18 0 0 ≡ unreadable bytes solution
    unfolding oversized is_oversized counts_of
    refused_18 t =
        sym
        (past_17
        ∙ or_else_by (oversized parts) from19 (refusal 18 0 0) (refused_if_lem _ (refusal 18 0 0) (sym (ap is_oversized counts) ∙ t)) (eqb-false 18 0 refl))

    module _ (small : is_oversized s ≡ false) (are : Each IsByte bytes) where
      past_18 : unreadable bytes solution ≡ from19
      unfolding oversized is_oversized counts_of
      past_18 = past_17 ∙ or_else_past (oversized parts) from19 (if_not _ (refusal 18 0 0) (sym (ap is_oversized counts) ∙ small))

      pub givens_same : givens_in Items bytes s.givens ≡ parts.givens
      unfolding counts_of
      givens_same = ap (λ (x : Scanned). givens_in Items bytes x.givens) counts ∙ givens_read bytes are (sym well)

      pub refused_19 : ascending (givens_in Items bytes s.givens) ≡ false → refusal 19 0 0 ≡ unreadable bytes solution
      refused_19 t =
          sym
          (past_18
          ∙ or_else_by (refused_if (not (ascending parts.givens)) (refusal 19 0 0)) from20 (refusal 19 0 0)
          (refused_if_lem _ (refusal 19 0 0) (not_is_true _ (sym (ap ascending givens_same) ∙ t)))
          (eqb-false 19 0 refl))

      module _ (rise : ascending (givens_in Items bytes s.givens) ≡ true) (r : Refusal) (w : r ≡ miscounted_by s) where
        past_19 : unreadable bytes solution ≡ from20
        past_19 =
            past_18
            ∙ or_else_past (refused_if (not (ascending parts.givens)) (refusal 19 0 0)) from20
            (if_not _ (refusal 19 0 0) (not_is_false _ (sym (ap ascending givens_same) ∙ rise)))

        is_20 : miscounted parts ≡ r
        unfolding miscounted miscounted_by counts_of
        is_20 = sym (w ∙ ap miscounted_by counts)

        pub refused_20 : (r.number ≡ 0 → ⊥) → r ≡ unreadable bytes solution
        refused_20 n = sym (past_19 ∙ or_else_by (miscounted parts) (vouch parts.givens solution) r is_20 n)

        pub past_21 : r.number ≡ 0 → vouch (givens_in Items bytes s.givens) solution ≡ unreadable bytes solution
        past_21 n =
            ap (λ (gs : List Setters). vouch gs solution) givens_same
            ∙ sym (past_19 ∙ or_else_passed (miscounted parts) (vouch parts.givens solution) (ap (λ (x : Refusal). x.number) is_20 ∙ n))
