-- A scan of a record's bytes, one item after the other: what is left to
-- read from an offset, what a turn takes off, and what the whole counts.
-- Assumes nothing.
use Prim.Native.Nat.{ℕ, zero, suc, ◌+◌, ◌^◌, ◌≤◌, ◌<◌}
use mathlib.Core.Path.{◌≡◌, refl, sym, ap, subst, ◌∙◌}
use mathlib.Core.Bool.{Bool, true, false, not}
use mathlib.Core.List.{List, [], ◌∷◌}
use native.Mathlib.Nat.{zero-add}
use native.Mathlib.Numerals.{add-one}
use native.Mathlib.Omega.{arith}
use borrow.Author.Tests.{eqb-true, leb-true, ne_eqb}
use lib.Dec.{leb, eqb}
use lib.ListN.{length, drop, get_or, length-drop, drop_of_length-le}
use lib.Seq.{drop-cons, drop-drop}
use Rattle.sudoku.specs.Tests.{pick, either}
use Rattle.sudoku.proofs.Walks.{pick_true, pick_false, either_first}
use Rattle.puzzle.specs.declared.Refusal.{Refusal}
use Rattle.puzzle.specs.Givens.{given}
use Rattle.puzzle.specs.Refusals.{refusal, accepted}
use denote.Enum.Bare.{sameb}
use Rattle.std.specs.Prelude.{Option, Some, None, Err}
use Rattle.std.specs.Option.{ok_or}
use Rattle.journal.specs.declared.Move.TheVariants.{Place, Erase, WriteMark, StrikeMark}
use Rattle.journal.specs.Limits.{max_moves}
use Rattle.journal.specs.Bytes.{two}
use Rattle.record.specs.declared.Item.{Item}
use Rattle.record.specs.declared.Item.TheVariants.{Given, Played, Undone, Check}
use Rattle.record.specs.contracts.Phase.{the_type}
use Rattle.record.specs.declared.Phase.{Phase}
use Rattle.record.specs.declared.Phase.TheVariants.{Givens as AmongGivens, Moves as AmongMoves, Checks as AmongChecks}
use Rattle.record.specs.declared.Progress.{Progress}
use Rattle.record.specs.declared.Read.{Read}
use Rattle.record.specs.declared.Scanned.{Scanned}
use Rattle.record.specs.Items.{Parts, encode}
use Rattle.record.specs.Scan.{asked, Taken, got, broken, Items, ended, cut, then, take_item, by_kind, body2, body3, body5, go_on, items_in, items_of_bytes, reached, may_stand, scan, malformed, add, no_parts, parts_in, parts_of_bytes}
use Rattle.record.specs.Reopen.{any_late}
use Rattle.record.specs.Code.Counting.{taken, read, read_of, phase_number, progress, Room, given_step, move_step, undone_step, check_step, item_step, scanned, counts_of}
use Rattle.record.proofs.ReadBack.{encode_some}
use Rattle.record.proofs.KindBytes.{kinds, other_kind}

-- ---- the bytes behind an item

-- the rest is what its bytes leave, whatever the kind byte was
unfoldable Behind : List ℕ → Taken → Type 0
Behind l (got i rest) = (k : ℕ) → drop (length (encode i)) (k ∷ l) ≡ rest
Behind l broken = Unit

behind2 : (f : ℕ → ℕ → Item) → ((a b : ℕ) → length (encode (f a b)) ≡ 3) → (l : List ℕ) → Behind l (body2 f l)
unfolding Behind body2
behind2 f n [] = tt
behind2 f n (a ∷ []) = tt
behind2 f n (a ∷ b ∷ l) = λ k. ap (λ (m : ℕ). drop m (k ∷ a ∷ b ∷ l)) (n a b)

behind3 : (f : ℕ → ℕ → ℕ → Item) → ((a b c : ℕ) → length (encode (f a b c)) ≡ 4) → (l : List ℕ) → Behind l (body3 f l)
unfolding Behind body3
behind3 f n [] = tt
behind3 f n (a ∷ []) = tt
behind3 f n (a ∷ b ∷ []) = tt
behind3 f n (a ∷ b ∷ c ∷ l) = λ k. ap (λ (m : ℕ). drop m (k ∷ a ∷ b ∷ c ∷ l)) (n a b c)

behind5 : (f : ℕ → ℕ → ℕ → ℕ → ℕ → Item) → ((a b c d e : ℕ) → length (encode (f a b c d e)) ≡ 6) → (l : List ℕ) → Behind l (body5 f l)
unfolding Behind body5
behind5 f n [] = tt
behind5 f n (a ∷ []) = tt
behind5 f n (a ∷ b ∷ []) = tt
behind5 f n (a ∷ b ∷ c ∷ []) = tt
behind5 f n (a ∷ b ∷ c ∷ d ∷ []) = tt
behind5 f n (a ∷ b ∷ c ∷ d ∷ e ∷ l) = λ k. ap (λ (m : ℕ). drop m (k ∷ a ∷ b ∷ c ∷ d ∷ e ∷ l)) (n a b c d e)

abbrev Leaves : ℕ → Type 0
Leaves kind = (l : List ℕ) → Behind l (take_item kind l)

leaves : (kind : ℕ) → Leaves kind
unfolding Behind take_item by_kind pick encode
leaves =
    kinds Leaves (behind3 (λ row column digit. Given (given row column digit)) (λ a b c. refl))
    (behind3 (λ row column digit. Played (Place row column digit)) (λ a b c. refl))
    (behind2 (λ row column. Played (Erase row column)) (λ a b. refl))
    (behind3 (λ row column digit. Played (WriteMark row column digit)) (λ a b c. refl))
    (behind3 (λ row column digit. Played (StrikeMark row column digit)) (λ a b c. refl))
    (behind2 (λ a b. Undone (two a b)) (λ a b. refl))
    (behind5 (λ a b row column digit. Check (asked (two a b) row column digit)) (λ a b c d e. refl))
    (λ k o l. subst (Behind l) (sym (other_kind k _ _ _ _ _ _ _ _ o)) tt)

shorter : (l rest : List ℕ) (i : Item) → Behind l (got i rest) → length rest ≤ length l
unfolding Behind
shorter l rest i b = omega (arith, ap length (b 0), length-drop (length (encode i)) (0 ∷ l), encode_some i)

-- ---- fuel enough is fuel enough

on_same : (f g : List ℕ → Items) (l : List ℕ) (t : Taken) → Behind l t → ((rest : List ℕ) → length rest ≤ length l → f rest ≡ g rest) → go_on t f ≡ go_on t g
unfolding go_on
on_same f g l (got i rest) b h = ap (then i) (h rest (shorter l rest i b))
on_same f g l broken b h = refl

fuel_same : (f g : ℕ) (l : List ℕ) → length l ≤ f → length l ≤ g → items_in f l ≡ items_in g l
unfolding items_in
fuel_same zero zero [] h u = refl
fuel_same zero (suc g) [] h u = refl
fuel_same (suc f) zero [] h u = refl
fuel_same (suc f) (suc g) [] h u = refl
fuel_same zero g (kind ∷ l) h u = absurd (omega arith)
fuel_same (suc f) zero (kind ∷ l) h u = absurd (omega arith)
fuel_same (suc f) (suc g) (kind ∷ l) h u =
    on_same (items_in f) (items_in g) l (take_item kind l) (leaves kind l) (λ rest r. fuel_same f g rest (omega arith) (omega arith))

items_next : (kind : ℕ) (l : List ℕ) → items_of_bytes (kind ∷ l) ≡ go_on (take_item kind l) items_of_bytes
unfolding items_of_bytes items_in
items_next kind l =
    on_same (items_in (length l)) items_of_bytes l (take_item kind l) (leaves kind l)
    (λ rest r. fuel_same (length l) (length rest) rest r (omega arith))

-- ---- what is left from an offset on

unfoldable pub left : List ℕ → ℕ → Items
left bytes at = items_of_bytes (drop at bytes)

-- the counts so far, and those of the items that are left
abbrev pub totals : Progress → Parts → Scanned
totals s p =
    scanned (s.counts.givens + length p.givens) (s.counts.moves + length p.moves)
    (pick (eqb (phase_number s.phase) 2) s.counts.undone p.undone)
    (s.counts.checks + length p.checks)
    (either s.counts.late (any_late p.checks))

-- what a scan comes to, from what was counted so far and the items that are left: a refusal, and the counts
pub record Comes (s : Progress) (is : Items) (r : Refusal) (c : Scanned) : Type 0 where
  pub refusal : scan (phase_number s.phase) s.item is ≡ r
  pub counts : totals s (parts_in is) ≡ c

-- ---- an item that stands where it may, or not

-- the code's tests of how far it has come
pub is_after : (q : Phase) → true ≡ not (not (sameb the_type q AmongChecks)) → eqb (phase_number q) 2 ≡ true
is_after AmongGivens e = absurd cc
is_after AmongMoves e = absurd cc
is_after AmongChecks e = refl

pub is_before : (q : Phase) → true ≡ not (sameb the_type q AmongChecks) → eqb (phase_number q) 2 ≡ false
is_before AmongGivens e = refl
is_before AmongMoves e = refl
is_before AmongChecks e = absurd cc

-- where there is nothing, the error is the one that was given
pub ok_or_none : {T E : Type 0} (o : Option T) (e x : E) → Err x ≡ ok_or o e → (o ≡ None) × (x ≡ e)
ok_or_none None e x p = (refl, cc)
ok_or_none (Some y) e x p = absurd cc

picked : {A : Type 0} (t : Bool) (x y : A) → pick t (Some x) None ≡ Some y → (t ≡ true) × (x ≡ y)
unfolding pick
picked true x y e = (refl, cc)
picked false x y e = absurd cc

not_picked : {A : Type 0} (t : Bool) (x : A) → pick t (Some x) None ≡ None → t ≡ false
unfolding pick
not_picked true x e = absurd cc
not_picked false x e = refl

either_assoc : (a b c : Bool) → either (either a b) c ≡ either a (either b c)
unfolding either
either_assoc true b c = refl
either_assoc false b c = refl

-- before the undone count
before_count : (n : ℕ) → leb n 1 ≡ true → eqb n 2 ≡ false
before_count n p = let le = leb-true n 1 p in ne_eqb n 2 (λ e. omega arith)

one_more : (n : ℕ) {A : Type 0} (x : A) (l : List A) → n + 1 + length l ≡ n + length (x ∷ l)
one_more n x l = omega arith

module _ (s : Progress) (at : ℕ) (is : Items) (r : Refusal) (c : Scanned) where
  abbrev phase : ℕ
  phase = phase_number s.phase

  abbrev p : Parts
  p = parts_in is

  -- the items that are left begin with one that may stand there
  after : (i : Item) → may_stand phase i ≡ true → scan phase s.item (then i is) ≡ r → scan (reached i) (s.item + 1) is ≡ r
  unfolding scan
  after i t e = ap (λ (n : ℕ). scan (reached i) n is) (add-one s.item) ∙ sym (pick_true _ _ _ t) ∙ e

  -- the step that a test lets through
  stepped : (t : Bool) (on next : Progress) → pick t (Some on) None ≡ Some next → (t ≡ true → Comes on is r c) → Comes next is r c
  stepped t on next e h = subst (λ (n : Progress). Comes n is r c) (picked t on next e).1 (h (picked t on next e).0)

  pub steps_on : (i : Item) (next : Progress) → Comes s (then i is) r c → item_step s i at ≡ Some next → Comes next is r c
  unfolding item_step given_step move_step undone_step check_step may_stand reached parts_in add any_late either pick
  steps_on (Given g) next h e =
      stepped _ _ next e
      (λ t. record { refusal = rw (eqb-true phase 0 t) (after (Given g) t h.refusal); counts = rw (one_more s.counts.givens g p.givens) h.counts })
  steps_on (Played m) next h e =
      stepped _ _ next e
      (λ t. record { refusal = after (Played m) t h.refusal; counts = rw (one_more s.counts.moves m p.moves, ← pick_false (eqb phase 2) s.counts.undone p.undone (before_count phase t)) h.counts })
  steps_on (Undone n) next h e =
      stepped _ _ next e
      (λ t. record { refusal = after (Undone n) t h.refusal; counts = rw (← pick_false (eqb phase 2) s.counts.undone n (before_count phase t)) h.counts })
  steps_on (Check a) next h e =
      stepped _ _ next e
      (λ t. record { refusal = rw (eqb-true phase 2 t) (after (Check a) t h.refusal); counts = rw (one_more s.counts.checks a p.checks, either_assoc s.counts.late (not (leb a.standing max_moves)) (any_late p.checks)) h.counts })

  -- or with one that may not
  pub stops : (i : Item) → Comes s (then i is) r c → item_step s i at ≡ None → refusal 17 s.item 0 ≡ r
  unfolding item_step given_step move_step undone_step check_step may_stand scan
  stops (Given g) h e = sym (pick_false _ _ _ (not_picked _ _ e)) ∙ h.refusal
  stops (Played m) h e = sym (pick_false _ _ _ (not_picked _ _ e)) ∙ h.refusal
  stops (Undone n) h e = sym (pick_false _ _ _ (not_picked _ _ e)) ∙ h.refusal
  stops (Check a) h e = sym (pick_false _ _ _ (not_picked _ _ e)) ∙ h.refusal

-- where the item that stands next ends, the next one starts
from_item : (s next : Progress) (i : Item) (at : ℕ) → item_step s i at ≡ Some next → next.at ≡ at
unfolding item_step given_step move_step undone_step check_step
from_item s next (Given g) at e = ap (λ (n : Progress). n.at) (sym (picked _ _ next e).1)
from_item s next (Played m) at e = ap (λ (n : Progress). n.at) (sym (picked _ _ next e).1)
from_item s next (Undone n) at e = ap (λ (n : Progress). n.at) (sym (picked _ _ next e).1)
from_item s next (Check a) at e = ap (λ (n : Progress). n.at) (sym (picked _ _ next e).1)

-- ---- a turn of the loop

module _ (bytes : List ℕ) (s : Progress) (inside : s.at < length bytes) (r : Refusal) (c : Scanned) (h : Comes s (left bytes s.at) r c) where
  -- what is taken from the bytes at the offset
  abbrev first : Taken
  first = taken (drop s.at bytes)

  behind : Behind (drop (suc s.at) bytes) first
  unfolding taken
  behind = subst (λ (l : List ℕ). Behind (drop (suc s.at) bytes) (taken l)) (sym (drop-cons bytes s.at 0 inside)) (leaves (get_or bytes s.at 0) (drop (suc s.at) bytes))

  opened : left bytes s.at ≡ go_on first items_of_bytes
  unfolding left taken
  opened =
      ap items_of_bytes (drop-cons bytes s.at 0 inside)
      ∙ items_next (get_or bytes s.at 0) (drop (suc s.at) bytes)
      ∙ ap (λ (l : List ℕ). go_on (taken l) items_of_bytes) (sym (drop-cons bytes s.at 0 inside))

  -- the item that is read there, and those behind it
  read_left : (t : Taken) (i : Item) (next : ℕ) → Behind (drop (suc s.at) bytes) t → read_of s.at t ≡ Some (read i next)
      → (go_on t items_of_bytes ≡ then i (left bytes next)) × (next ≡ s.at + length (encode i))
  unfolding read_of go_on left Behind
  read_left (got i rest) j next b e =
      let q : read i (s.at + length (encode i)) ≡ read j next = cc in
      let same = ap (λ (x : Read). x.item) q in
      let ends = ap (λ (x : Read). x.next) q in (
        (λ k. then (same k) (items_of_bytes (rest_at k)))
            ∙ ap (λ (n : ℕ). then j (items_of_bytes (drop n bytes))) ends,
        sym ends ∙ ap (λ (x : Item). s.at + length (encode x)) same,
      )
    where
      rest_at : rest ≡ drop (s.at + length (encode i)) bytes
      rest_at =
          sym (b (get_or bytes s.at 0))
          ∙ ap (drop (length (encode i))) (sym (drop-cons bytes s.at 0 inside))
          ∙ drop-drop (length (encode i)) s.at bytes
  read_left broken j next b e = absurd cc

  cut_left : (t : Taken) → read_of s.at t ≡ None → go_on t items_of_bytes ≡ cut
  unfolding read_of go_on
  cut_left (got i rest) e = absurd cc
  cut_left broken e = refl

  pub nothing_read : None ≡ read_of s.at first → refusal 17 s.item 0 ≡ r
  unfolding scan
  nothing_read e = sym (ap (scan (phase_number s.phase) s.item) (opened ∙ cut_left first (sym e))) ∙ h.refusal

  module _ (x : Read) (e : Some x ≡ read_of s.at first) where
    from_here : (left bytes s.at ≡ then x.item (left bytes x.next)) × (x.next ≡ s.at + length (encode x.item))
    from_here = let q = read_left first x.item x.next behind (sym e) in (opened ∙ q.0, q.1)

    here : Comes s (then x.item (left bytes x.next)) r c
    here = subst (λ (is : Items). Comes s is r c) from_here.0 h

    pub reads_on : s.at < x.next
    reads_on = omega (arith, from_here.1, encode_some x.item)

    pub stops_here : None ≡ item_step s x.item x.next → refusal 17 s.item 0 ≡ r
    stops_here n = stops s x.next (left bytes x.next) r c x.item here (sym n)

    module _ (next : Progress) (n : Some next ≡ item_step s x.item x.next) where
      pub goes_on : Comes next (left bytes next.at) r c
      goes_on =
          subst (λ (k : ℕ). Comes next (left bytes k) r c) (sym (from_item s next x.item x.next (sym n)))
          (steps_on s x.next (left bytes x.next) r c x.item next here (sym n))

      pub onward : s.at < next.at
      onward = omega (arith, from_item s next x.item x.next (sym n), reads_on)

-- at the end of the bytes
module _ (bytes : List ℕ) (s : Progress) (past : length bytes ≤ s.at) (r : Refusal) (c : Scanned) (h : Comes s (left bytes s.at) r c) where
  none_left : left bytes s.at ≡ ended
  unfolding left items_of_bytes items_in
  none_left = ap items_of_bytes (drop_of_length-le bytes past)

  last : Comes s ended r c
  last = subst (λ (is : Items). Comes s is r c) none_left h

  pub ends_early : eqb (phase_number s.phase) 2 ≡ false → refusal 17 s.item 0 ≡ r
  unfolding scan
  ends_early t = sym (pick_false _ _ _ t) ∙ last.refusal

  module _ (t : eqb (phase_number s.phase) 2 ≡ true) where
    pub ends_well : accepted ≡ r
    unfolding scan
    ends_well = sym (pick_true _ _ _ t) ∙ last.refusal

    pub ends_counted : s.counts ≡ c
    unfolding parts_in no_parts any_late
    ends_counted =
        (λ j. scanned (none s.counts.givens j) (none s.counts.moves j) (sym (pick_true (eqb (phase_number s.phase) 2) s.counts.undone 0 t) j) (none s.counts.checks j) (sym (either_first s.counts.late false refl) j))
        ∙ last.counts
      where
        none : (n : ℕ) → n ≡ n + 0
        none n = omega arith

-- at the beginning
pub comes_of : (bytes : List ℕ) → Comes (progress AmongGivens 1 0 (scanned 0 0 0 0 false)) (left bytes 0) (malformed bytes) (counts_of (parts_of_bytes bytes))
unfolding left malformed parts_of_bytes counts_of pick either
comes_of bytes =
    let p = parts_of_bytes bytes in
    record {
      refusal = refl;
      counts = λ j. scanned (zero-add (length p.givens) j) (zero-add (length p.moves) j) p.undone (zero-add (length p.checks) j) (any_late p.checks);
    }

-- ---- no count overflows

-- no count is above the number of bytes read
pub record Going (s : Progress) : Type 0 where
  pub item : s.item ≤ s.at + 1
  pub givens : s.counts.givens ≤ s.at
  pub moves : s.counts.moves ≤ s.at
  pub checks : s.counts.checks ≤ s.at

pub going_room : (s : Progress) (n : ℕ) → Going s → s.at < n → n < 2 ^ 63 → Room s
going_room s n g h u = record { item = omega arith; givens = omega arith; moves = omega arith; checks = omega arith }

pub going_on : (s next : Progress) (i : Item) (at : ℕ) → item_step s i at ≡ Some next → s.at < at → Going s → Going next
unfolding item_step given_step move_step undone_step check_step
going_on s next (Given x) at e u g =
    subst Going (picked _ _ next e).1 (record { item = omega arith; givens = omega arith; moves = omega arith; checks = omega arith })
going_on s next (Played m) at e u g =
    subst Going (picked _ _ next e).1 (record { item = omega arith; givens = omega arith; moves = omega arith; checks = omega arith })
going_on s next (Undone n) at e u g =
    subst Going (picked _ _ next e).1 (record { item = omega arith; givens = omega arith; moves = omega arith; checks = omega arith })
going_on s next (Check a) at e u g =
    subst Going (picked _ _ next e).1 (record { item = omega arith; givens = omega arith; moves = omega arith; checks = omega arith })
