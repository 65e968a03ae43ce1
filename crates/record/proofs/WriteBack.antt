-- Writing back what was read: bytes that are well formed are the record of
-- the parts that they hold, and the numbers of these parts fit two bytes.
-- Assumes nothing.
use Prim.Native.Nat.{ℕ, zero, suc, ◌<◌}
use mir.Syntax.{w8}
use mir.Val.{Fits as FitsType}
use mathlib.Core.Path.{◌≡◌, refl, sym, ap, subst, ◌∙◌}
use mathlib.Core.Bool.{true, false}
use mathlib.Core.List.{List, [], ◌∷◌, ◌++◌, map}
use native.Mathlib.Omega.{arith}
use borrow.Author.Tests.{eqb-true}
use lib.Dec.{eqb}
use lib.ListN.{length, get_or}
use Rattle.sudoku.specs.Tests.{pick}
use Rattle.sudoku.proofs.Walks.{by_test, not_both_ways, pick_true, pick_false}
use Rattle.puzzle.specs.declared.Refusal.{Refusal}
use Rattle.puzzle.specs.Refusals.{refusal, accepted}
use Rattle.journal.specs.declared.Move.{Move}
use Rattle.journal.specs.Bytes.{two}
use Rattle.journal.proofs.Memory.{low_two, second_two}
use Rattle.record.specs.declared.Item.{Item}
use Rattle.record.specs.declared.Item.TheVariants.{Given, Played, Undone, Check}
use Rattle.record.specs.Items.{encode, encode_all, given_item, check_item, items_of, record_of}
use Rattle.record.specs.Scan.{Taken, got, broken, Items, ended, cut, then, take_item, by_kind, body2, body3, body5, go_on, items_in, items_of_bytes, reached, may_stand, scan, malformed, add, no_parts, parts_in, parts_of_bytes}
use Rattle.sudoku.proofs.Each.{Each, each_of, each_right, each_unmap}
use Rattle.record.proofs.ReadBack.{Fits, CheckFits, items_grouped}

abbrev pub IsByte : ℕ → Type 0
IsByte n = n < 256

-- two bytes make a number that fits them
pub two_fits : (a b : ℕ) → a < 256 → b < 256 → two a b < 65536
unfolding two
two_fits a b h g = omega arith

-- ---- one item

-- what holds of each kind's answer holds of the answer
by_kind_lem : {A : Type 0} (P : A → Type 0) (kind : ℕ) (a1 a2 a3 a4 a5 a6 a7 other : A) → (kind ≡ 1 → P a1) → (kind ≡ 2 → P a2) → (kind ≡ 3 → P a3)
    → (kind ≡ 4 → P a4) → (kind ≡ 5 → P a5) → (kind ≡ 6 → P a6) → (kind ≡ 7 → P a7) → P other → P (by_kind kind a1 a2 a3 a4 a5 a6 a7 other)
unfolding by_kind
by_kind_lem {A} P kind a1 a2 a3 a4 a5 a6 a7 other p1 p2 p3 p4 p5 p6 p7 q =
    chosen 1 a1 _ p1 (chosen 2 a2 _ p2 (chosen 3 a3 _ p3 (chosen 4 a4 _ p4 (chosen 5 a5 _ p5 (chosen 6 a6 _ p6 (chosen 7 a7 other p7 q))))))
  where
    chosen : (k : ℕ) (a b : A) → (kind ≡ k → P a) → P b → P (pick (eqb kind k) a b)
    chosen k a b p r =
        by_test (eqb kind k) (λ t. subst P (sym (pick_true (eqb kind k) a b t)) (p (eqb-true kind k t)))
        (λ t. subst P (sym (pick_false (eqb kind k) a b t)) r)

-- an item that was taken, with the bytes after it, is what stood there; its number fits, and bytes are left
unfoldable Joins : List ℕ → Taken → Type 0
Joins l (got i rest) = (encode i ++ rest ≡ l) × Fits i × Each IsByte rest
Joins l broken = Unit

module _ (kind : ℕ) where
  joins2 : (f : ℕ → ℕ → Item) (l : List ℕ) → Each IsByte l
      → ((a b : ℕ) (rest : List ℕ) → IsByte a → IsByte b → (encode (f a b) ++ rest ≡ kind ∷ a ∷ b ∷ rest) × Fits (f a b))
      → Joins (kind ∷ l) (body2 f l)
  unfolding Joins body2 Each
  joins2 f [] h w = tt
  joins2 f (a ∷ []) h w = tt
  joins2 f (a ∷ b ∷ l) h w = ((w a b l h.0 h.1.0).0, (w a b l h.0 h.1.0).1, h.1.1)

  joins3 : (f : ℕ → ℕ → ℕ → Item) (l : List ℕ) → Each IsByte l
      → ((a b c : ℕ) (rest : List ℕ) → (encode (f a b c) ++ rest ≡ kind ∷ a ∷ b ∷ c ∷ rest) × Fits (f a b c))
      → Joins (kind ∷ l) (body3 f l)
  unfolding Joins body3 Each
  joins3 f [] h w = tt
  joins3 f (a ∷ []) h w = tt
  joins3 f (a ∷ b ∷ []) h w = tt
  joins3 f (a ∷ b ∷ c ∷ l) h w = ((w a b c l).0, (w a b c l).1, h.1.1.1)

  joins5 : (f : ℕ → ℕ → ℕ → ℕ → ℕ → Item) (l : List ℕ) → Each IsByte l
      → ((a b c d e : ℕ) (rest : List ℕ) → IsByte a → IsByte b
      → (encode (f a b c d e) ++ rest ≡ kind ∷ a ∷ b ∷ c ∷ d ∷ e ∷ rest) × Fits (f a b c d e))
      → Joins (kind ∷ l) (body5 f l)
  unfolding Joins body5 Each
  joins5 f [] h w = tt
  joins5 f (a ∷ []) h w = tt
  joins5 f (a ∷ b ∷ []) h w = tt
  joins5 f (a ∷ b ∷ c ∷ []) h w = tt
  joins5 f (a ∷ b ∷ c ∷ d ∷ []) h w = tt
  joins5 f (a ∷ b ∷ c ∷ d ∷ e ∷ l) h w =
      ((w a b c d e l h.0 h.1.0).0, (w a b c d e l h.0 h.1.0).1, h.1.1.1.1.1)

taken_joins : (kind : ℕ) (l : List ℕ) → Each IsByte l → Joins (kind ∷ l) (take_item kind l)
unfolding Joins take_item encode Fits
taken_joins kind l h =
    by_kind_lem (λ (t : Taken). Joins (kind ∷ l) t) kind _ _ _ _ _ _ _ _
    (λ e. joins3 kind _ l h (λ a b c rest. (ap (λ (k : ℕ). k ∷ a ∷ b ∷ c ∷ rest) (sym e), tt)))
    (λ e. joins3 kind _ l h (λ a b c rest. (ap (λ (k : ℕ). k ∷ a ∷ b ∷ c ∷ rest) (sym e), tt)))
    (λ e. joins2 kind _ l h (λ a b rest p q. (ap (λ (k : ℕ). k ∷ a ∷ b ∷ rest) (sym e), tt)))
    (λ e. joins3 kind _ l h (λ a b c rest. (ap (λ (k : ℕ). k ∷ a ∷ b ∷ c ∷ rest) (sym e), tt)))
    (λ e. joins3 kind _ l h (λ a b c rest. (ap (λ (k : ℕ). k ∷ a ∷ b ∷ c ∷ rest) (sym e), tt)))
    (λ e. joins2 kind _ l h (λ a b rest p q. ((λ i. sym e i ∷ low_two a b p q i ∷ second_two a b p q i ∷ rest), two_fits a b p q)))
    (λ e.
    joins5 kind _ l h
    (λ a b c d f rest p q. ((λ i. sym e i ∷ low_two a b p q i ∷ second_two a b p q i ∷ c ∷ d ∷ f ∷ rest), two_fits a b p q)))
    tt

-- ---- the items

-- the items of some bytes as a list, and that no byte was left over
unfoldable pub list_in : Items → List Item
list_in ended = []
list_in cut = []
list_in (then i is) = i ∷ list_in is

unfoldable Whole : Items → Type 0
Whole ended = Unit
Whole cut = ⊥
Whole (then i is) = Whole is

-- items are the bytes that they were read from
unfoldable Covers : List ℕ → Items → Type 0
Covers l is = Whole is → (encode_all (list_in is) ≡ l) × Each Fits (list_in is)

went_on : (fuel : ℕ) (l : List ℕ) (t : Taken) → Joins l t → ((rest : List ℕ) → Each IsByte rest → Covers rest (items_in fuel rest))
    → Covers l (go_on t (items_in fuel))
unfolding Joins Covers Whole go_on list_in encode_all Each
went_on fuel l (got i rest) j next =
    λ w. let r = next rest j.2 w in (ap (λ (m : List ℕ). encode i ++ m) r.0 ∙ j.0, (j.1, r.1))
went_on fuel l broken j next = λ w. absurd w

items_cover : (fuel : ℕ) (l : List ℕ) → Each IsByte l → Covers l (items_in fuel l)
unfolding Covers Whole items_in list_in encode_all Each
items_cover zero [] h = λ w. (refl, tt)
items_cover zero (kind ∷ l) h = λ w. absurd w
items_cover (suc fuel) [] h = λ w. (refl, tt)
items_cover (suc fuel) (kind ∷ l) h = went_on fuel (kind ∷ l) (take_item kind l) (taken_joins kind l h.1) (items_cover fuel)

-- ---- their order

-- 17 is a refusal
refused_17 : (n : ℕ) → refusal 17 n 0 ≡ accepted → ⊥
refused_17 n h = omega (arith, ap (λ (r : Refusal). r.number) h)

-- an item that stands in an accepted record may stand there, and what follows it is accepted
pub stands : (phase n : ℕ) (i : Item) (is : Items) → scan phase n (then i is) ≡ accepted
    → (may_stand phase i ≡ true) × (scan (reached i) (suc n) is ≡ accepted)
unfolding scan
stands phase n i is h =
    by_test (may_stand phase i) (λ t. (t, sym (pick_true _ _ _ t) ∙ h))
    (λ t. absurd (refused_17 n (sym (pick_false _ _ _ t) ∙ h)))

formed_whole : (phase n : ℕ) (is : Items) → scan phase n is ≡ accepted → Whole is
unfolding scan Whole
formed_whole phase n ended h = tt
formed_whole phase n cut h = refused_17 n h
formed_whole phase n (then i is) h = formed_whole (reached i) (suc n) is (stands phase n i is h).1

-- after the undone count: checks alone
checks_order : (n : ℕ) (is : Items) → scan 2 n is ≡ accepted
    → ((parts_in is).givens ≡ []) × ((parts_in is).moves ≡ []) × (map check_item (parts_in is).checks ≡ list_in is)
unfolding parts_in add no_parts list_in check_item Whole reached may_stand
checks_order n ended h = (refl, refl, refl)
checks_order n cut h = absurd (formed_whole 2 n cut h)
checks_order n (then (Given g) is) h =
    absurd (not_both_ways false (stands 2 n (Given g) is h).0 refl)
checks_order n (then (Played m) is) h = absurd (not_both_ways false (stands 2 n (Played m) is h).0 refl)
checks_order n (then (Undone u) is) h = absurd (not_both_ways false (stands 2 n (Undone u) is h).0 refl)
checks_order n (then (Check c) is) h =
    let r = checks_order (suc n) is (stands 2 n (Check c) is h).1 in
    (r.0, r.1, ap (λ (l : List Item). Check c ∷ l) r.2)

-- the undone count and the checks
undone_order : (phase n u : ℕ) (is : Items) → scan phase n (then (Undone u) is) ≡ accepted
    → ((parts_in is).givens ≡ []) × ((parts_in is).moves ≡ []) × (Undone u ∷ map check_item (parts_in is).checks ≡ Undone u ∷ list_in is)
unfolding reached
undone_order phase n u is h =
    let r = checks_order (suc n) is (stands phase n (Undone u) is h).1 in
    (r.0, r.1, ap (λ (l : List Item). Undone u ∷ l) r.2)

-- after a move: moves, the undone count, checks
moves_order : (n : ℕ) (is : Items) → scan 1 n is ≡ accepted
    → ((parts_in is).givens ≡ [])
    × (map Played (parts_in is).moves ++ Undone (parts_in is).undone ∷ map check_item (parts_in is).checks ≡ list_in is)
unfolding parts_in add list_in Whole reached may_stand scan pick
moves_order n ended h = absurd (refused_17 n h)
moves_order n cut h = absurd (refused_17 n h)
moves_order n (then (Given g) is) h =
    absurd (not_both_ways false (stands 1 n (Given g) is h).0 refl)
moves_order n (then (Played m) is) h =
    let r = moves_order (suc n) is (stands 1 n (Played m) is h).1 in
    (r.0, ap (λ (l : List Item). Played m ∷ l) r.1)
moves_order n (then (Undone u) is) h =
    let r = undone_order 1 n u is h in
    (r.0, ap (λ (ms : List Move). map Played ms ++ Undone u ∷ map check_item (parts_in is).checks) r.1 ∙ r.2)
moves_order n (then (Check c) is) h =
    absurd (not_both_ways false (stands 1 n (Check c) is h).0 refl)

-- from the beginning
givens_order : (n : ℕ) (is : Items) → scan 0 n is ≡ accepted
    → map given_item (parts_in is).givens
    ++ (map Played (parts_in is).moves ++ Undone (parts_in is).undone ∷ map check_item (parts_in is).checks)
    ≡ list_in is
unfolding parts_in add list_in given_item reached may_stand scan pick
givens_order n ended h = absurd (refused_17 n h)
givens_order n cut h = absurd (refused_17 n h)
givens_order n (then (Given g) is) h =
    ap (λ (l : List Item). Given g ∷ l)
    (givens_order (suc n) is (stands 0 n (Given g) is h).1)
givens_order n (then (Played m) is) h =
    let r = moves_order (suc n) is (stands 0 n (Played m) is h).1 in
    λ i.
    map given_item (r.0 i) ++ (Played m ∷ r.1 i)
givens_order n (then (Undone u) is) h =
    let r = undone_order 0 n u is h in
    λ i. map given_item (r.0 i) ++ (map Played (r.1 i) ++ r.2 i)
givens_order n (then (Check c) is) h =
    absurd (not_both_ways false (stands 0 n (Check c) is h).0 refl)

-- ---- a record's bytes

module _ (bytes : List ℕ) (are : Each IsByte bytes) (h : malformed bytes ≡ accepted) where
  covered : (encode_all (list_in (items_of_bytes bytes)) ≡ bytes) × Each Fits (list_in (items_of_bytes bytes))
  unfolding malformed items_of_bytes Covers
  covered = items_cover (length bytes) bytes are (formed_whole 0 _ (items_of_bytes bytes) h)

  ordered : items_of (parts_of_bytes bytes) ≡ list_in (items_of_bytes bytes)
  unfolding malformed parts_of_bytes
  ordered = items_grouped (parts_of_bytes bytes) ∙ givens_order _ (items_of_bytes bytes) h

  -- the bytes are the record of the parts that they hold
  pub bytes_record : record_of (parts_of_bytes bytes) ≡ bytes
  unfolding record_of
  bytes_record = ap encode_all ordered ∙ covered.0

  fit : Each Fits (items_of (parts_of_bytes bytes))
  fit = subst (λ (l : List Item). Each Fits l) (sym ordered) covered.1

  -- whose numbers fit two bytes
  pub undone_fits : (parts_of_bytes bytes).undone < 65536
  unfolding items_of Each Fits
  undone_fits =
      (each_right Fits (map given_item (parts_of_bytes bytes).givens ++ map Played (parts_of_bytes bytes).moves) _ fit).0

  pub checks_fit : Each CheckFits (parts_of_bytes bytes).checks
  unfolding items_of Each Fits check_item
  checks_fit =
      each_unmap Fits check_item (parts_of_bytes bytes).checks
      (each_right Fits (map given_item (parts_of_bytes bytes).givens ++ map Played (parts_of_bytes bytes).moves) _ fit).1

-- the same from the statement that each entry is below 256
pub are_bytes : (l : List ℕ) → ((i : ℕ) → i < length l → get_or l i 0 < 256) → Each IsByte l
are_bytes l h = each_of IsByte l 0 h

-- and from what the type of a slice of bytes says
pub bytes_fit : (l : List ℕ) → ((i : ℕ) → FitsType w8 (get_or l i 0)) → Each IsByte l
bytes_fit l h = are_bytes l (λ i u. (h i).fits)
