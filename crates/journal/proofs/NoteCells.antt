-- What striking and writing a mark does to notes kept in a list, for any list
-- of cells and a list of notes of any length: mark by mark and cell by cell.
-- The mask of those that have the mark; striking again what the mask names
-- strikes the same; writing what the mask names gives the notes back.
-- Assumes nothing.
use Prim.Native.Nat.{ℕ, zero, suc, ◌+◌, ◌*◌, ◌/◌, ◌%◌, ◌^◌, ◌≤◌, ◌<◌}
use mathlib.Core.Path.{◌≡◌, refl, sym, ap, subst, ◌∙◌}
use mathlib.Core.Bool.{Bool, true, false, not}
use mathlib.Core.List.{List, [], ◌∷◌}
use native.Mathlib.Nat.{div-one, div-div-eq-div-mul, pow-suc, pow-succ', le_of_suc-le-suc, not-suc-le-zero}
use native.Mathlib.Omega.{arith}
use borrow.Author.Tests.{eqb-true, eq-eqb, ne_eqb}
use lib.Dec.{eqb}
use lib.ListN.{length, get_or}
use lib.Seq.{ext_get_or}
use Rattle.sudoku.specs.Tests.{pick, both, either, bit}
use Rattle.sudoku.specs.Grid.{in_range, at, put}
use Rattle.sudoku.proofs.Walks.{by_test, bit_le, not_both_ways, pick_true, pick_false, both_true, both_left, both_right, both_second, both_false_right, either_left, either_right, either_first, either_second, either_false_left, either_false_right, either_cases, Entry}
use Rattle.sudoku.proofs.Grid.{at_put_within, length_put, put_put, put_at_lem}
use Rattle.note.specs.Note.{contains, with_mark, without, is_note}
use Rattle.note.proofs.Note.{contains_struck, contains_written, is_note_with, is_note_without, same_marks, strike_write, write_strike}
use Rattle.journal.specs.State.{write_at, strike_at, strike_all, holders, lowest, strike_masked, write_masked, every_masked}
use Rattle.journal.specs.Code.Marks.{MarkLaws, write_laws, strike_laws}

-- ---- the words of this page

-- n is one of the cells
unfoldable pub is_in : ℕ → List ℕ → Bool
is_in n [] = false
is_in n (cell ∷ cells) = either (eqb cell n) (is_in n cells)

-- n is one of the cells whose bit is set in the mask
unfoldable pub is_masked : ℕ → ℕ → List ℕ → Bool
is_masked mask n [] = false
is_masked mask n (cell ∷ cells) = either (both (lowest mask) (eqb cell n)) (is_masked (mask / 2) n cells)

-- each of the cells is one of `size`, which count from 1
abbrev pub Within : ℕ → List ℕ → Type 0
Within size cells = (i : ℕ) → i < length cells → (1 ≤ get_or cells i 0) × (get_or cells i 0 ≤ size)

-- no cell stands there twice
abbrev pub Apart : List ℕ → Type 0
Apart cells = (i j : ℕ) → i < length cells → j < length cells → (i ≡ j → ⊥) → get_or cells i 0 ≡ get_or cells j 0 → ⊥

-- each entry is a note
abbrev pub AreNotes : List ℕ → Type 0
AreNotes notes = (n : ℕ) → 1 ≤ n → is_note (at notes n) ≡ true

within_rest : (size cell : ℕ) (cells : List ℕ) → Within size (cell ∷ cells) → Within size cells
within_rest size cell cells w i h = w (suc i) (omega arith)

within_size : (size size' : ℕ) (cells : List ℕ) → size ≡ size' → Within size cells → Within size' cells
within_size size size' cells e w = subst (λ (k : ℕ). Within k cells) e w

-- ---- being one of the cells

pub in_at : (n : ℕ) (cells : List ℕ) → is_in n cells ≡ true → Entry cells n
unfolding is_in
in_at n [] h = absurd (not_both_ways false h refl)
in_at n (cell ∷ cells) h =
    either_cases (eqb cell n) (is_in n cells) h (λ e. record { at = 0; within = omega arith; is = eqb-true cell n e })
    (λ r. later (in_at n cells r))
  where
    later : Entry cells n → Entry (cell ∷ cells) n
    later w = record { at = suc w.at; within = omega (arith, w.within); is = w.is }

pub in_of : (cells : List ℕ) (i : ℕ) → i < length cells → is_in (get_or cells i 0) cells ≡ true
unfolding is_in
in_of [] i h = absurd (not-suc-le-zero h)
in_of (cell ∷ cells) zero h = either_left (eqb cell cell) (is_in cell cells) (eq-eqb cell cell refl)
in_of (cell ∷ cells) (suc i) h = either_right (eqb cell (get_or cells i 0)) (is_in (get_or cells i 0) cells) (in_of cells i (le_of_suc-le-suc h))

-- one that is masked is one of the cells
pub masked_in : (mask n : ℕ) (cells : List ℕ) → is_masked mask n cells ≡ true → is_in n cells ≡ true
unfolding is_in is_masked
masked_in mask n [] h = h
masked_in mask n (cell ∷ cells) h =
    either_cases (both (lowest mask) (eqb cell n)) (is_masked (mask / 2) n cells) h
    (λ e. either_left (eqb cell n) (is_in n cells) (both_right (lowest mask) (eqb cell n) e))
    (λ r. either_right (eqb cell n) (is_in n cells) (masked_in (mask / 2) n cells r))

pub masked_out : (mask n : ℕ) (cells : List ℕ) → is_in n cells ≡ false → is_masked mask n cells ≡ false
masked_out mask n cells h =
    by_test (is_masked mask n cells) (λ t. absurd (not_both_ways (is_in n cells) (masked_in mask n cells t) h)) (λ t. t)

-- bit i of the mask is cell i's, where no cell stands twice
pub masked_at : (mask : ℕ) (cells : List ℕ) (i : ℕ) → Apart cells → i < length cells → is_masked mask (get_or cells i 0) cells ≡ eqb (mask / 2 ^ i % 2) 1
unfolding is_masked lowest
masked_at mask [] i a h = absurd (not-suc-le-zero h)
masked_at mask (cell ∷ cells) zero a h =
    either_first (both (eqb (mask % 2) 1) (eqb cell cell)) (is_masked (mask / 2) cell cells) (masked_out (mask / 2) cell cells alone)
    ∙ both_second (eqb (mask % 2) 1) (eqb cell cell) (eq-eqb cell cell refl)
    ∙ ap (λ (k : ℕ). eqb (k % 2) 1) (sym (div-one mask))
  where
    twice : Entry cells cell → ⊥
    twice w = a 0 (suc w.at) (omega arith) (omega (arith, w.within)) (omega arith) (sym w.is)

    alone : is_in cell cells ≡ false
    alone = by_test (is_in cell cells) (λ t. absurd (twice (in_at cell cells t))) (λ t. t)
masked_at mask (cell ∷ cells) (suc i) a h =
    either_second (both (eqb (mask % 2) 1) (eqb cell (get_or cells i 0))) (is_masked (mask / 2) (get_or cells i 0) cells)
    (both_false_right (eqb (mask % 2) 1) (eqb cell (get_or cells i 0)) (ne_eqb cell (get_or cells i 0) (a 0 (suc i) (omega arith) h (omega arith))))
    ∙ masked_at (mask / 2) cells i (λ j k u v d. a (suc j) (suc k) (omega arith) (omega arith) (omega arith)) (le_of_suc-le-suc h)
    ∙ ap (λ (k : ℕ). eqb (k % 2) 1) (div-div-eq-div-mul mask 2 (2 ^ i) ∙ ap (λ (k : ℕ). mask / k) (sym (pow-succ' 2 i)))

-- ---- tests joined

joined : (e t u r : Bool) → (e ≡ true → t ≡ u) → either (both t e) (both r u) ≡ both (either e r) u
unfolding both either
joined true true u r h = h refl
joined true false true r h = absurd (not_both_ways true refl (sym (h refl)))
joined true false false true h = refl
joined true false false false h = refl
joined false true u r h = refl
joined false false u r h = refl

-- ---- the mask of the cells that have the mark

lowest_bit : (t : Bool) (k : ℕ) → lowest (bit t + 2 * k) ≡ t
unfolding lowest bit
lowest_bit true k = eq-eqb ((1 + 2 * k) % 2) 1 (omega arith)
lowest_bit false k = ne_eqb ((0 + 2 * k) % 2) 1 (omega arith)

rest_bits : (t : Bool) (k : ℕ) → (bit t + 2 * k) / 2 ≡ k
unfolding bit
rest_bits true k = omega arith
rest_bits false k = omega arith

-- it names exactly those of the cells that have it
pub masked_holders : (notes : List ℕ) (d n : ℕ) (cells : List ℕ) → is_masked (holders notes d cells) n cells ≡ both (is_in n cells) (contains (at notes n) d)
unfolding is_masked is_in holders both
masked_holders notes d n [] = refl
masked_holders notes d n (cell ∷ cells) =
    (λ j.
    either (both (lowest_bit (contains (at notes cell) d) (holders notes d cells) j) (eqb cell n))
    (is_masked (rest_bits (contains (at notes cell) d) (holders notes d cells) j) n cells))
    ∙ ap (λ (t : Bool). either (both (contains (at notes cell) d) (eqb cell n)) t) (masked_holders notes d n cells)
    ∙ joined (eqb cell n) (contains (at notes cell) d) (contains (at notes n) d) (is_in n cells)
    (λ e. ap (λ (k : ℕ). contains (at notes k) d) (eqb-true cell n e))

-- bit i tells of cell i
pub holders_bit : (notes : List ℕ) (d : ℕ) (cells : List ℕ) (i : ℕ) → i < length cells
    → eqb (holders notes d cells / 2 ^ i % 2) 1 ≡ contains (at notes (get_or cells i 0)) d
unfolding holders lowest
holders_bit notes d [] i h = absurd (not-suc-le-zero h)
holders_bit notes d (cell ∷ cells) zero h =
    ap (λ (k : ℕ). eqb (k % 2) 1) (div-one (holders notes d (cell ∷ cells)))
    ∙ lowest_bit (contains (at notes cell) d) (holders notes d cells)
holders_bit notes d (cell ∷ cells) (suc i) h =
    ap (λ (k : ℕ). eqb (k % 2) 1)
    (ap (λ (k : ℕ). holders notes d (cell ∷ cells) / k) (pow-succ' 2 i)
    ∙ sym (div-div-eq-div-mul (holders notes d (cell ∷ cells)) 2 (2 ^ i))
    ∙ ap (λ (k : ℕ). k / 2 ^ i) (rest_bits (contains (at notes cell) d) (holders notes d cells)))
    ∙ holders_bit notes d cells i (le_of_suc-le-suc h)

-- one bit for each cell
pub holders_small : (notes : List ℕ) (d : ℕ) (cells : List ℕ) → holders notes d cells < 2 ^ length cells
unfolding holders
holders_small notes d [] = omega arith
holders_small notes d (cell ∷ cells) =
    omega (arith, pow-suc 2 (length cells), bit_le (contains (at notes cell) d), holders_small notes d cells)

-- ---- a change at one cell and at the cells of a mask, for both changes

both_either : (e a b : Bool) → either (both e a) (both e b) ≡ both e (either a b)
unfolding both either
both_either true a b = refl
both_either false a b = refl

pub pick_either : {A : Type 0} (P : A → Type 0) (t : Bool) (a b : A) → P a → P b → P (pick t a b)
unfolding pick
pick_either P true a b p q = p
pick_either P false a b p q = q

-- notes of a length
record Kept (size : ℕ) (notes : List ℕ) : Type 0 where
  long : length notes ≡ size
  are : AreNotes notes

module _ {after : ℕ → ℕ → ℕ} {fits : ℕ → ℕ → Bool} {at_cell : List ℕ → ℕ → ℕ → List ℕ} {masked : List ℕ → ℕ → ℕ → List ℕ → List ℕ} {fits_each : List ℕ → ℕ → ℕ → List ℕ → Bool}
    (laws : MarkLaws after fits at_cell masked fits_each) where
  length_at : (notes : List ℕ) (cell d : ℕ) → length (at_cell notes cell d) ≡ length notes
  length_at notes cell d = rw (laws.cell notes cell d) (length_put notes cell (after (at notes cell) d))

  length_masked : (notes : List ℕ) (d mask : ℕ) (cells : List ℕ) → length (masked notes d mask cells) ≡ length notes
  length_masked notes d mask [] = ap length (laws.none notes d mask)
  length_masked notes d mask (cell ∷ cells) =
      ap length (laws.more notes d mask cell cells)
      ∙ length_masked (pick (lowest mask) (at_cell notes cell d) notes) d (mask / 2) cells
      ∙ pick_either (λ (l : List ℕ). length l ≡ length notes) (lowest mask) (at_cell notes cell d) notes (length_at notes cell d) refl

  -- cells of the notes stay so
  within_after : (notes : List ℕ) (cell d : ℕ) (t : Bool) (cells : List ℕ) → Within (length notes) (cell ∷ cells) → Within (length (pick t (at_cell notes cell d) notes)) cells
  within_after notes cell d t cells w =
      pick_either (λ (l : List ℕ). Within (length l) cells) t (at_cell notes cell d) notes
      (within_size (length notes) (length (at_cell notes cell d)) cells (sym (length_at notes cell d)) (within_rest (length notes) cell cells w))
      (within_rest (length notes) cell cells w)

  -- a note after a change at a cell, which may be its own
  at_after : (notes : List ℕ) (cell d n : ℕ) → 1 ≤ cell → cell ≤ length notes → 1 ≤ n → at (at_cell notes cell d) n ≡ pick (eqb cell n) (after (at notes n) d) (at notes n)
  at_after notes cell d n from to n-from =
      ap (λ (l : List ℕ). at l n) (laws.cell notes cell d)
      ∙ at_put_within notes cell n (after (at notes cell) d) from to n-from
      ∙ by_test (eqb cell n) (λ e. ap (λ (k : ℕ). pick (eqb cell n) (after (at notes k) d) (at notes n)) (eqb-true cell n e))
      (λ e. pick_false (eqb cell n) (after (at notes cell) d) (at notes n) e ∙ sym (pick_false (eqb cell n) (after (at notes n) d) (at notes n) e))

  -- a note elsewhere stays as it is
  masked_elsewhere : (notes : List ℕ) (d mask : ℕ) (cells : List ℕ) (n : ℕ) → Within (length notes) cells → 1 ≤ n → is_in n cells ≡ false
      → at (masked notes d mask cells) n ≡ at notes n
  unfolding is_in
  masked_elsewhere notes d mask [] n w f off = ap (λ (l : List ℕ). at l n) (laws.none notes d mask)
  masked_elsewhere notes d mask (cell ∷ cells) n w f off =
      ap (λ (l : List ℕ). at l n) (laws.more notes d mask cell cells)
      ∙ masked_elsewhere (pick (lowest mask) (at_cell notes cell d) notes) d (mask / 2) cells n (within_after notes cell d (lowest mask) cells w) f
      (either_false_right (eqb cell n) (is_in n cells) off)
      ∙ pick_either (λ (l : List ℕ). at l n ≡ at notes n) (lowest mask) (at_cell notes cell d) notes
      (at_after notes cell d n (w 0 (omega arith)).0 (w 0 (omega arith)).1 f
      ∙ pick_false (eqb cell n) (after (at notes n) d) (at notes n) (either_false_left (eqb cell n) (is_in n cells) off)) refl

  -- notes stay notes, where each does
  module _ (keeps : (note d : ℕ) → is_note note ≡ true → is_note (after note d) ≡ true) (size : ℕ) where
    kept_at : (notes : List ℕ) (cell d : ℕ) → 1 ≤ cell → cell ≤ size → Kept size notes → Kept size (at_cell notes cell d)
    kept_at notes cell d f t k =
        record {
          long = length_at notes cell d ∙ k.long;
          are = λ n h.
              ap is_note (at_after notes cell d n f (omega (arith, k.long)) h)
              ∙ pick_either (λ (x : ℕ). is_note x ≡ true) (eqb cell n) (after (at notes n) d) (at notes n) (keeps (at notes n) d (k.are n h)) (k.are n h);
        }

    kept_masked : (notes : List ℕ) (d mask : ℕ) (cells : List ℕ) → Within size cells → Kept size notes → Kept size (masked notes d mask cells)
    kept_masked notes d mask [] w k = rw (laws.none notes d mask) k
    kept_masked notes d mask (cell ∷ cells) w k =
        rw (laws.more notes d mask cell cells)
        (kept_masked (pick (lowest mask) (at_cell notes cell d) notes) d (mask / 2) cells (within_rest size cell cells w)
        (pick_either (λ (l : List ℕ). Kept size l) (lowest mask) (at_cell notes cell d) notes (kept_at notes cell d (w 0 (omega arith)).0 (w 0 (omega arith)).1 k) k))

  -- mark by mark: what `marks` says of one note, of those at the cells
  module _ (d : ℕ) (joins : Bool → Bool → Bool) (none : (x : Bool) → joins x false ≡ x) (more : (x a b : Bool) → joins (joins x a) b ≡ joins x (either a b))
      (marks : (note m : ℕ) → contains (after note d) m ≡ joins (contains note m) (eqb m d)) where
    at_mark : (notes : List ℕ) (cell n m : ℕ) → 1 ≤ cell → cell ≤ length notes → 1 ≤ n
        → contains (at (at_cell notes cell d) n) m ≡ joins (contains (at notes n) m) (both (eqb m d) (eqb cell n))
    at_mark notes cell n m from to n-from =
        ap (λ (x : ℕ). contains x m) (at_after notes cell d n from to n-from)
        ∙ by_test (eqb cell n)
        (λ e. ap (λ (x : ℕ). contains x m) (pick_true (eqb cell n) (after (at notes n) d) (at notes n) e)
        ∙ marks (at notes n) m
        ∙ ap (joins (contains (at notes n) m)) (sym (both_second (eqb m d) (eqb cell n) e)))
        (λ e. ap (λ (x : ℕ). contains x m) (pick_false (eqb cell n) (after (at notes n) d) (at notes n) e)
        ∙ sym (none (contains (at notes n) m))
        ∙ ap (joins (contains (at notes n) m)) (sym (both_false_right (eqb m d) (eqb cell n) e)))

    pick_mark : (t : Bool) (notes : List ℕ) (cell n m : ℕ) → 1 ≤ cell → cell ≤ length notes → 1 ≤ n
        → contains (at (pick t (at_cell notes cell d) notes) n) m ≡ joins (contains (at notes n) m) (both (eqb m d) (both t (eqb cell n)))
    unfolding pick both
    pick_mark true notes cell n m from to n-from = at_mark notes cell n m from to n-from
    pick_mark false notes cell n m from to n-from =
        sym (none (contains (at notes n) m)) ∙ ap (joins (contains (at notes n) m)) (sym (both_false_right (eqb m d) false refl))

    masked_mark : (notes : List ℕ) (mask : ℕ) (cells : List ℕ) (n m : ℕ) → Within (length notes) cells → 1 ≤ n
        → contains (at (masked notes d mask cells) n) m ≡ joins (contains (at notes n) m) (both (eqb m d) (is_masked mask n cells))
    unfolding is_masked
    masked_mark notes mask [] n m w f =
        ap (λ (l : List ℕ). contains (at l n) m) (laws.none notes d mask)
        ∙ sym (none (contains (at notes n) m))
        ∙ ap (joins (contains (at notes n) m)) (sym (both_false_right (eqb m d) false refl))
    masked_mark notes mask (cell ∷ cells) n m w f =
        ap (λ (l : List ℕ). contains (at l n) m) (laws.more notes d mask cell cells)
        ∙ masked_mark (pick (lowest mask) (at_cell notes cell d) notes) (mask / 2) cells n m (within_after notes cell d (lowest mask) cells w) f
        ∙ ap (λ (t : Bool). joins t (both (eqb m d) (is_masked (mask / 2) n cells)))
        (pick_mark (lowest mask) notes cell n m (w 0 (omega arith)).0 (w 0 (omega arith)).1 f)
        ∙ more (contains (at notes n) m) (both (eqb m d) (both (lowest mask) (eqb cell n))) (both (eqb m d) (is_masked (mask / 2) n cells))
        ∙ ap (joins (contains (at notes n) m)) (both_either (eqb m d) (both (lowest mask) (eqb cell n)) (is_masked (mask / 2) n cells))

-- ---- a mark struck leaves the others, a mark written joins them

strikes_none : (x : Bool) → both x (not false) ≡ x
strikes_none x = both_second x (not false) refl

strikes_more : (x a b : Bool) → both (both x (not a)) (not b) ≡ both x (not (either a b))
unfolding both either
strikes_more false a b = refl
strikes_more true true b = refl
strikes_more true false b = refl

writes_none : (x : Bool) → either x false ≡ x
writes_none x = either_first x false refl

writes_more : (x a b : Bool) → either (either x a) b ≡ either x (either a b)
unfolding either
writes_more true a b = refl
writes_more false a b = refl

pub strike_at_mark : (notes : List ℕ) (cell d n m : ℕ) → 1 ≤ cell → cell ≤ length notes → 1 ≤ n
    → contains (at (strike_at notes cell d) n) m ≡ both (contains (at notes n) m) (not (both (eqb m d) (eqb cell n)))
strike_at_mark notes cell d n m =
    at_mark strike_laws d (λ x h. both x (not h)) strikes_none strikes_more (λ note m. contains_struck note d m) notes cell n m

pub write_at_mark : (notes : List ℕ) (cell d n m : ℕ) → 1 ≤ cell → cell ≤ length notes → 1 ≤ n → in_range d ≡ true
    → contains (at (write_at notes cell d) n) m ≡ either (contains (at notes n) m) (both (eqb m d) (eqb cell n))
write_at_mark notes cell d n m from to n-from r =
    at_mark write_laws d either writes_none writes_more (λ note m. contains_written note d m r) notes cell n m from to n-from

-- and after striking, or writing, at those that the mask names
pub strike_masked_mark : (notes : List ℕ) (d mask : ℕ) (cells : List ℕ) (n m : ℕ) → Within (length notes) cells → 1 ≤ n
    → contains (at (strike_masked notes d mask cells) n) m ≡ both (contains (at notes n) m) (not (both (eqb m d) (is_masked mask n cells)))
strike_masked_mark notes d mask cells n m =
    masked_mark strike_laws d (λ x h. both x (not h)) strikes_none strikes_more (λ note m. contains_struck note d m) notes mask cells n m

pub write_masked_mark : (notes : List ℕ) (d mask : ℕ) (cells : List ℕ) (n m : ℕ) → Within (length notes) cells → 1 ≤ n → in_range d ≡ true
    → contains (at (write_masked notes d mask cells) n) m ≡ either (contains (at notes n) m) (both (eqb m d) (is_masked mask n cells))
write_masked_mark notes d mask cells n m w f r =
    masked_mark write_laws d either writes_none writes_more (λ note m. contains_written note d m r) notes mask cells n m w f

-- ---- striking at all of the cells

struck_within : (notes : List ℕ) (cell d : ℕ) (cells : List ℕ) → Within (length notes) (cell ∷ cells) → Within (length (strike_at notes cell d)) cells
struck_within notes cell d cells w =
    within_size (length notes) (length (strike_at notes cell d)) cells (sym (length_at strike_laws notes cell d)) (within_rest (length notes) cell cells w)

-- a mark stands after striking at all the cells where it stood,
-- unless it is the mark struck and the place one of the cells
pub strike_all_mark : (notes : List ℕ) (d : ℕ) (cells : List ℕ) (n m : ℕ) → Within (length notes) cells → 1 ≤ n
    → contains (at (strike_all notes d cells) n) m ≡ both (contains (at notes n) m) (not (both (eqb m d) (is_in n cells)))
unfolding strike_all is_in
strike_all_mark notes d [] n m w f =
    sym (strikes_none (contains (at notes n) m)) ∙ ap (λ (t : Bool). both (contains (at notes n) m) (not t)) (sym (both_false_right (eqb m d) false refl))
strike_all_mark notes d (cell ∷ cells) n m w f =
    strike_all_mark (strike_at notes cell d) d cells n m (struck_within notes cell d cells w) f
    ∙ ap (λ (t : Bool). both t (not (both (eqb m d) (is_in n cells))))
    (strike_at_mark notes cell d n m (w 0 (omega arith)).0 (w 0 (omega arith)).1 f)
    ∙ strikes_more (contains (at notes n) m) (both (eqb m d) (eqb cell n)) (both (eqb m d) (is_in n cells))
    ∙ ap (λ (t : Bool). both (contains (at notes n) m) (not t)) (both_either (eqb m d) (eqb cell n) (is_in n cells))

pub strike_all_elsewhere : (notes : List ℕ) (d : ℕ) (cells : List ℕ) (n : ℕ) → Within (length notes) cells → 1 ≤ n → is_in n cells ≡ false
    → at (strike_all notes d cells) n ≡ at notes n
unfolding strike_all is_in
strike_all_elsewhere notes d [] n w f off = refl
strike_all_elsewhere notes d (cell ∷ cells) n w f off =
    strike_all_elsewhere (strike_at notes cell d) d cells n (struck_within notes cell d cells w) f (either_false_right (eqb cell n) (is_in n cells) off)
    ∙ at_after strike_laws notes cell d n (w 0 (omega arith)).0 (w 0 (omega arith)).1 f
    ∙ pick_false (eqb cell n) (without (at notes n) d) (at notes n) (either_false_left (eqb cell n) (is_in n cells) off)

pub length_strike_all : (notes : List ℕ) (d : ℕ) (cells : List ℕ) → length (strike_all notes d cells) ≡ length notes
unfolding strike_all
length_strike_all notes d [] = refl
length_strike_all notes d (cell ∷ cells) = length_strike_all (strike_at notes cell d) d cells ∙ length_at strike_laws notes cell d

kept_strike_all : (size : ℕ) (notes : List ℕ) (d : ℕ) (cells : List ℕ) → Within size cells → Kept size notes → Kept size (strike_all notes d cells)
unfolding strike_all
kept_strike_all size notes d [] w k = k
kept_strike_all size notes d (cell ∷ cells) w k =
    kept_strike_all size (strike_at notes cell d) d cells (within_rest size cell cells w)
    (kept_at strike_laws is_note_without size notes cell d (w 0 (omega arith)).0 (w 0 (omega arith)).1 k)

-- ---- lengths stay, notes stay notes, and notes elsewhere stay as they are

pub length_strike_at : (notes : List ℕ) (cell d : ℕ) → length (strike_at notes cell d) ≡ length notes
length_strike_at = length_at strike_laws

pub length_write_at : (notes : List ℕ) (cell d : ℕ) → length (write_at notes cell d) ≡ length notes
length_write_at = length_at write_laws

pub strike_masked_elsewhere : (notes : List ℕ) (d mask : ℕ) (cells : List ℕ) (n : ℕ) → Within (length notes) cells → 1 ≤ n → is_in n cells ≡ false
    → at (strike_masked notes d mask cells) n ≡ at notes n
strike_masked_elsewhere = masked_elsewhere strike_laws

pub write_masked_elsewhere : (notes : List ℕ) (d mask : ℕ) (cells : List ℕ) (n : ℕ) → Within (length notes) cells → 1 ≤ n → is_in n cells ≡ false
    → at (write_masked notes d mask cells) n ≡ at notes n
write_masked_elsewhere = masked_elsewhere write_laws

module _ (notes : List ℕ) (are : AreNotes notes) where
  kept : Kept (length notes) notes
  kept = record { long = refl; are = are }

  pub strike_at_notes : (cell d : ℕ) → 1 ≤ cell → cell ≤ length notes → AreNotes (strike_at notes cell d)
  strike_at_notes cell d f t = (kept_at strike_laws is_note_without (length notes) notes cell d f t kept).are

  pub write_at_notes : (cell d : ℕ) → 1 ≤ cell → cell ≤ length notes → AreNotes (write_at notes cell d)
  write_at_notes cell d f t = (kept_at write_laws is_note_with (length notes) notes cell d f t kept).are

  pub strike_all_notes : (d : ℕ) (cells : List ℕ) → Within (length notes) cells → AreNotes (strike_all notes d cells)
  strike_all_notes d cells w = (kept_strike_all (length notes) notes d cells w kept).are

  pub strike_masked_notes : (d mask : ℕ) (cells : List ℕ) → Within (length notes) cells → AreNotes (strike_masked notes d mask cells)
  strike_masked_notes d mask cells w = (kept_masked strike_laws is_note_without (length notes) notes d mask cells w kept).are

  pub write_masked_notes : (d mask : ℕ) (cells : List ℕ) → Within (length notes) cells → AreNotes (write_masked notes d mask cells)
  write_masked_notes d mask cells w = (kept_masked write_laws is_note_with (length notes) notes d mask cells w kept).are

-- two lists of notes with the same marks are the same list
pub notes_same : (l k : List ℕ) → length l ≡ length k → AreNotes l → AreNotes k
    → ((n m : ℕ) → 1 ≤ n → in_range m ≡ true → contains (at l n) m ≡ contains (at k n) m) → l ≡ k
unfolding at
notes_same l k e p q h =
    ext_get_or 0 l k e
    (λ i u. subst (λ (j : ℕ). get_or l j 0 ≡ get_or k j 0) (omega arith)
    (same_marks (at l (i + 1)) (at k (i + 1)) (p (i + 1) (omega arith)) (q (i + 1) (omega arith)) (λ m r. h (i + 1) m (omega arith) r)))

-- ---- again, and back

-- of a mark that stands at a place: whether it is struck by all the cells or by those that have it is one
again : (x e a c : Bool) → (e ≡ true → x ≡ c) → both x (not (both e (both a c))) ≡ both x (not (both e a))
unfolding both
again false e a c h = refl
again true false a c h = refl
again true true true true h = refl
again true true true false h = absurd (not_both_ways true refl (h refl))
again true true false c h = refl

back : (x e a c : Bool) → (e ≡ true → x ≡ c) → either (both x (not (both e a))) (both e (both a c)) ≡ x
unfolding both either
back true false a c h = refl
back false false a c h = refl
back true true true c h = sym (h refl)
back true true false c h = refl
back false true true c h = sym (h refl)
back false true false c h = refl

module _ (notes : List ℕ) (are : AreNotes notes) (d : ℕ) (cells : List ℕ) (w : Within (length notes) cells) where
  same_mark : (n m : ℕ) → eqb m d ≡ true → contains (at notes n) m ≡ contains (at notes n) d
  same_mark n m e = ap (contains (at notes n)) (eqb-true m d e)

  -- striking at those that have the mark is striking at all
  pub strike_again : strike_masked notes d (holders notes d cells) cells ≡ strike_all notes d cells
  strike_again =
      notes_same (strike_masked notes d (holders notes d cells) cells) (strike_all notes d cells)
      (length_masked strike_laws notes d (holders notes d cells) cells ∙ sym (length_strike_all notes d cells))
      (strike_masked_notes notes are d (holders notes d cells) cells w) (strike_all_notes notes are d cells w)
      (λ n m f r. strike_masked_mark notes d (holders notes d cells) cells n m w f
      ∙ ap (λ (t : Bool). both (contains (at notes n) m) (not (both (eqb m d) t))) (masked_holders notes d n cells)
      ∙ again (contains (at notes n) m) (eqb m d) (is_in n cells) (contains (at notes n) d) (same_mark n m)
      ∙ sym (strike_all_mark notes d cells n m w f))

  -- writing at those that had the mark gives the notes back
  pub write_back : in_range d ≡ true → write_masked (strike_all notes d cells) d (holders notes d cells) cells ≡ notes
  write_back r =
      notes_same (write_masked (strike_all notes d cells) d (holders notes d cells) cells) notes
      (length_masked write_laws (strike_all notes d cells) d (holders notes d cells) cells ∙ length_strike_all notes d cells)
      (write_masked_notes (strike_all notes d cells) (strike_all_notes notes are d cells w) d (holders notes d cells) cells after) are
      (λ n m f q. write_masked_mark (strike_all notes d cells) d (holders notes d cells) cells n m after f r
      ∙ (λ j.
      either (strike_all_mark notes d cells n m w f j)
      (both (eqb m d) (masked_holders notes d n cells j)))
      ∙ back (contains (at notes n) m) (eqb m d) (is_in n cells) (contains (at notes n) d) (same_mark n m))
    where
      after : Within (length (strike_all notes d cells)) cells
      after = within_size (length notes) (length (strike_all notes d cells)) cells (sym (length_strike_all notes d cells)) w

-- ---- a test at each of those that the mask names

pub every_masked_lem : (f : ℕ → Bool) (mask : ℕ) (cells : List ℕ) → ((n : ℕ) → is_masked mask n cells ≡ true → f n ≡ true) → every_masked f mask cells ≡ true
unfolding every_masked is_masked
every_masked_lem f mask [] h = refl
every_masked_lem f mask (cell ∷ cells) h =
    both_true (either (not (lowest mask)) (f cell)) (every_masked f (mask / 2) cells)
    (by_test (lowest mask)
    (λ t. either_right (not (lowest mask)) (f cell)
    (h cell
    (either_left (both (lowest mask) (eqb cell cell)) (is_masked (mask / 2) cell cells) (both_true (lowest mask) (eqb cell cell) t (eq-eqb cell cell refl)))))
    (λ t. either_left (not (lowest mask)) (f cell) (ap not t)))
    (every_masked_lem f (mask / 2) cells (λ n m. h n (either_right (both (lowest mask) (eqb cell n)) (is_masked (mask / 2) n cells) m)))

-- and what holds of each follows from the test
pub masked_every : (f : ℕ → Bool) (mask : ℕ) (cells : List ℕ) (n : ℕ) → every_masked f mask cells ≡ true → is_masked mask n cells ≡ true → f n ≡ true
unfolding every_masked is_masked
masked_every f mask [] n h m = absurd (not_both_ways false m refl)
masked_every f mask (cell ∷ cells) n h m =
    either_cases (both (lowest mask) (eqb cell n)) (is_masked (mask / 2) n cells) m
    (λ e. subst (λ (k : ℕ). f k ≡ true) (eqb-true cell n (both_right (lowest mask) (eqb cell n) e))
    (sym (either_second (not (lowest mask)) (f cell) (ap not (both_left (lowest mask) (eqb cell n) e)))
    ∙ both_left (either (not (lowest mask)) (f cell)) (every_masked f (mask / 2) cells) h))
    (λ r. masked_every f (mask / 2) cells n (both_right (either (not (lowest mask)) (f cell)) (every_masked f (mask / 2) cells) h) r)

-- ---- one cell written and struck, or struck and written

module _ (notes : List ℕ) (cell d : ℕ) (from : 1 ≤ cell) (to : cell ≤ length notes) where
  here_after : (x : ℕ) → at (put notes cell x) cell ≡ x
  here_after x =
      at_put_within notes cell cell x from to from ∙ pick_true (eqb cell cell) x (at notes cell) (eq-eqb cell cell refl)

  pub strike_written : in_range d ≡ true → contains (at notes cell) d ≡ false → strike_at (write_at notes cell d) cell d ≡ notes
  unfolding strike_at write_at
  strike_written r h =
      put_put notes cell (with_mark (at notes cell) d) (without (at (put notes cell (with_mark (at notes cell) d)) cell) d)
      ∙ ap (λ (x : ℕ). put notes cell x)
      (ap (λ (x : ℕ). without x d) (here_after (with_mark (at notes cell) d)) ∙ strike_write (at notes cell) d r h)
      ∙ put_at_lem notes cell

  pub write_struck : contains (at notes cell) d ≡ true → write_at (strike_at notes cell d) cell d ≡ notes
  unfolding strike_at write_at
  write_struck h =
      put_put notes cell (without (at notes cell) d) (with_mark (at (put notes cell (without (at notes cell) d)) cell) d)
      ∙ ap (λ (x : ℕ). put notes cell x)
      (ap (λ (x : ℕ). with_mark x d) (here_after (without (at notes cell) d)) ∙ write_strike (at notes cell) d h)
      ∙ put_at_lem notes cell
