-- The figures of a text, one by one, and where a walk over bytes stops.
-- Assumes nothing.
use Rattle.std.proofs.Common.{◌≡◌, ℕ, ◌+◌, ◌<◌, ◌≤◌, Bool, true, false, List, length, get_or, drop, cond, ltb, sym, ap, ◌∙◌, Option, Some, None, Bor, MatchOption, option_and_then, unwrap_or, not, arith, add-one}
use denote.Param.Members.{Mut}
use Rattle.std.specs.declared.slice.Iter.{Iter}
use Rattle.std.specs.Iterator.{YieldsThen}
use Rattle.std.specs.Fn.{Called}
use Rattle.std.specs.Slice.Iter.{iter_rest}
use Rattle.std.proofs.iter.Yields.{fronts}
use Rattle.std.specs.List.{FoldsTo, position_or_len}
use Rattle.std.proofs.lemmas.List.Sums.{prefix_len-le-length}
use Rattle.std.proofs.lemmas.Iterator.{YieldsList-from_slice}
use Rattle.std.proofs.lemmas.Iterator.Search.{position_from_yields_List}
use Rattle.sudoku.proofs.Walks.{by_test}
use borrow.Author.Tests.{ltb-false}
use lib.ListN.{drop_of_length-le}
use lib.Seq.{drop-cons}
use Rattle.texts.specs.Commands.{with_figure, with_figures}

module _ (text : List ℕ) (n i : ℕ) where
  more : i < length text → with_figures n (drop i text) ≡ option_and_then (λ m. with_figures m (drop (i + 1) text)) (with_figure n (get_or text i 0))
  unfolding with_figures
  more h =
      ap (with_figures n) (drop-cons text i 0 h)
      ∙ ap (λ (k : ℕ). option_and_then (λ m. with_figures m (drop k text)) (with_figure n (get_or text i 0))) (sym (add-one i))

  pub figures_wrong : i < length text → with_figure n (get_or text i 0) ≡ None → with_figures n (drop i text) ≡ None
  figures_wrong h e = more h ∙ ap (option_and_then (λ m. with_figures m (drop (i + 1) text))) e

  pub figures_next : (m : ℕ) → i < length text → with_figure n (get_or text i 0) ≡ Some m → with_figures n (drop i text) ≡ with_figures m (drop (i + 1) text)
  figures_next m h e = more h ∙ ap (option_and_then (λ k. with_figures k (drop (i + 1) text))) e

  pub figures_end : length text ≤ i → with_figures n (drop i text) ≡ Some n
  unfolding with_figures
  figures_end h = ap (with_figures n) (drop_of_length-le text {i = i} h)

-- the place of the first element that passes, or the length where none does
first_or_length : (p : ℕ → Bool) (text : List ℕ) (r : Option ℕ) (n : ℕ) → r ≡ cond (ltb (position_or_len p text) (length text)) (Some (position_or_len p text)) None → n ≡ unwrap_or r (length text) → (n ≡ position_or_len p text) × (n ≤ length text)
first_or_length p text r n e u =
    let at = position_or_len p text in
    let short : at ≤ length text = prefix_len-le-length (λ x. not (p x)) text in
    by_test (ltb at (length text))
    (λ t.
    let is : n ≡ at = u ∙ ap (λ (o : Option ℕ). unwrap_or o (length text)) e ∙ ap (λ (b : Bool). unwrap_or (cond b (Some at) None) (length text)) t in
    (is, omega arith))
    (λ t.
    let all : length text ≤ at = ltb-false at (length text) t in
    let is : n ≡ length text = u ∙ ap (λ (o : Option ℕ). unwrap_or o (length text)) e ∙ ap (λ (b : Bool). unwrap_or (cond b (Some at) None) (length text)) t in
    (omega arith, omega arith))

-- the same of a walk that asks each byte in turn
module _ {F : Type 0} {g : Mut F (Bor ℕ × Unit {0}) Bool} {s u : Iter ℕ} {f : F} (p : ℕ → Bool) (text : List ℕ) where
  pub place_found : (r : Option ℕ) (n : ℕ)
      → (xs : List (Bor ℕ)) × (o : Option (Bor ℕ)) × (j : F) × YieldsThen fronts s xs o u × FoldsTo (λ q x t. Called g q (x, tt) false t) f xs j × MatchOption o (r ≡ None) (λ x. (r ≡ Some (length xs)) × ((h : F) × Called g j (x, tt) true h))
      → iter_rest s ≡ text → ((x : Bor ℕ) (b : Bool) (t : F) → Called g f (x, tt) b t → (t ≡ f) × (b ≡ p x.now)) → n ≡ unwrap_or r (length text) → (n ≡ position_or_len p text) × (n ≤ length text)
  place_found r n ran rest tells is = first_or_length p text r n (position_from_yields_List p u f r ran (YieldsList-from_slice text rest) tells) is
