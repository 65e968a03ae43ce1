-- The loops over a list of cells: what a turn takes off each walk of
-- specs/State and specs/Code/InTurn over what is left of the list, `drop i cells`.
-- Assumes nothing.
use Prim.Native.Nat.{ℕ, ◌+◌, ◌-◌, ◌*◌, ◌/◌, ◌%◌, ◌≤◌, ◌<◌, ◌^◌}
use mathlib.Core.Path.{◌≡◌, refl, sym, ap, ◌∙◌}
use mathlib.Core.Bool.{Bool, true, false, not, ◌&&◌, not-not}
use mathlib.Core.List.{List, ◌∷◌}
use native.Mathlib.Nat.{sub-zero, lt_of_lt_of_le}
use native.Mathlib.Numerals.{add-one}
use native.Mathlib.Omega.{arith}
use borrow.Author.Tests.{eqb-true, eqb-false}
use lib.Bits.{bit_and, bit_or, and_zero_r, or_zero_r}
use lib.Dec.{eqb}
use Rattle.std.proofs.lemmas.List.{drop_all}
use lib.ListN.{length, get_or, drop}
use lib.Pow.{pow_mono}
use lib.Seq.{drop-cons, set-get_or}
use Rattle.sudoku.specs.Tests.{pick, both, either, bit}
use Rattle.sudoku.specs.Grid.{at, put}
use Rattle.sudoku.proofs.Walks.{by_test, both_second}
use Rattle.note.specs.Note.{with_mark, without, power_of}
use Rattle.note.proofs.Note.{or_power, less_power, power_tests, power_there}
use Rattle.journal.specs.State.{strike_at, strike_all, holders, lowest}
use Rattle.journal.specs.Code.InTurn.{in_turn, lacks, not_missing}
use Rattle.journal.specs.Code.Marks.{MarkLaws}
use Rattle.journal.proofs.NoteCells.{holders_small}

-- ---- what is left of the list

cells_left : (cells : List ℕ) (i : ℕ) → i < length cells → drop i cells ≡ get_or cells i 0 ∷ drop (i + 1) cells
cells_left cells i h = rw (add-one i) (drop-cons cells i 0 h)

-- ---- a turn at cell i

module _ (cells : List ℕ) (i : ℕ) (h : i < length cells) where
  pub strike_all_turn : (notes : List ℕ) (d : ℕ) → strike_all notes d (drop i cells) ≡ strike_all (strike_at notes (get_or cells i 0) d) d (drop (i + 1) cells)
  unfolding strike_all
  strike_all_turn notes d = rw (cells_left cells i h)

  -- what was found so far, and the test of this cell where its bit is set in the mask
  pub in_turn_step : (change : List ℕ → ℕ → List ℕ) (test : ℕ → Bool) (notes after : List ℕ) (mask : ℕ) (ok r : Bool)
      → r ≡ either (not (lowest mask)) (test (at notes (get_or cells i 0))) → after ≡ pick (lowest mask) (change notes (get_or cells i 0)) notes
      → both ok (in_turn change test notes mask (drop i cells)) ≡ both (ok && r) (in_turn change test after (mask / 2) (drop (i + 1) cells))
  unfolding in_turn both
  in_turn_step change test notes after mask true r e q = rw (cells_left cells i h, e, q)
  in_turn_step change test notes after mask false r e q = refl

-- ---- at the end nothing is left

module _ (cells : List ℕ) (i : ℕ) (h : length cells ≤ i) where
  pub strike_all_end : (notes : List ℕ) (d : ℕ) → strike_all notes d (drop i cells) ≡ notes
  unfolding strike_all
  strike_all_end notes d = rw (drop_all i cells h)

  pub in_turn_end : (change : List ℕ → ℕ → List ℕ) (test : ℕ → Bool) (notes : List ℕ) (mask : ℕ) (ok : Bool)
      → both ok (in_turn change test notes mask (drop i cells)) ≡ ok
  unfolding in_turn
  in_turn_end change test notes mask ok = rw (drop_all i cells h) (both_second ok true refl)

-- ---- the two changes of a mark, by their laws

module _ {after : ℕ → ℕ → ℕ} {fits : ℕ → ℕ → Bool} {at_cell : List ℕ → ℕ → ℕ → List ℕ} {masked : List ℕ → ℕ → ℕ → List ℕ → List ℕ} {fits_each : List ℕ → ℕ → ℕ → List ℕ → Bool}
    (laws : MarkLaws after fits at_cell masked fits_each) (cells : List ℕ) (i : ℕ) where
  pub masked_turn : i < length cells → (notes : List ℕ) (d mask : ℕ)
      → masked notes d mask (drop i cells) ≡ masked (pick (lowest mask) (at_cell notes (get_or cells i 0) d) notes) d (mask / 2) (drop (i + 1) cells)
  masked_turn h notes d mask = rw (cells_left cells i h) (laws.more notes d mask _ _)

  pub masked_end : length cells ≤ i → (notes : List ℕ) (d mask : ℕ) → masked notes d mask (drop i cells) ≡ notes
  masked_end h notes d mask = rw (drop_all i cells h) (laws.none notes d mask)

  pub fits_turn : i < length cells → (notes next : List ℕ) (d mask : ℕ) (ok r : Bool)
      → r ≡ either (not (lowest mask)) (fits d (at notes (get_or cells i 0))) → next ≡ pick (lowest mask) (at_cell notes (get_or cells i 0) d) notes
      → both ok (fits_each notes d mask (drop i cells)) ≡ both (ok && r) (fits_each next d (mask / 2) (drop (i + 1) cells))
  fits_turn h notes next d mask ok r e q =
      rw (laws.each notes d mask (drop i cells), laws.each next d (mask / 2) (drop (i + 1) cells))
      (in_turn_step cells i h (λ l cell. at_cell l cell d) (fits d) notes next mask ok r e q)

  pub fits_end : length cells ≤ i → (notes : List ℕ) (d mask : ℕ) (ok : Bool) → both ok (fits_each notes d mask (drop i cells)) ≡ ok
  fits_end h notes d mask ok = rw (laws.each notes d mask (drop i cells)) (in_turn_end cells i h (λ l cell. at_cell l cell d) (fits d) notes mask ok)

-- ---- a note changed, and tested, by the lowest bit of a mask and without a test of that bit

pub low_bit : (mask : ℕ) → mask % 2 ≡ bit (lowest mask)
unfolding lowest bit
low_bit mask = by_test (eqb (mask % 2) 1) (λ t. eqb-true (mask % 2) 1 t ∙ sym (ap bit t)) (λ t. omega (arith, eqb-false (mask % 2) 1 t) ∙ sym (ap bit t))

-- the mark's value no or one time
pub times_bit : (b : Bool) (p : ℕ) → bit b * p ≡ pick b p 0
unfolding bit pick
times_bit true p = omega arith
times_bit false p = omega arith

module _ (n d : ℕ) where
  pub or_mark : (b : Bool) → bit_or n (pick b (power_of d) 0) ≡ pick b (with_mark n d) n
  unfolding pick
  or_mark true = or_power n d
  or_mark false = or_zero_r n

  pub less_mark : (b : Bool) → n - bit_and n (pick b (power_of d) 0) ≡ pick b (without n d) n
  unfolding pick
  less_mark true = less_power n d
  less_mark false = ap (λ (k : ℕ). n - k) (and_zero_r n) ∙ sub-zero n

  pub lacks_mark : (b : Bool) → eqb (bit_and n (pick b (power_of d) 0)) 0 ≡ either (not b) (lacks d n)
  unfolding pick either lacks
  lacks_mark true = sym (not-not (eqb (bit_and n (power_of d)) 0)) ∙ ap not (power_tests n d)
  lacks_mark false = ap (λ (k : ℕ). eqb k 0) (and_zero_r n)

  pub has_mark : (b : Bool) → eqb (bit_and n (pick b (power_of d) 0)) (pick b (power_of d) 0) ≡ either (not b) (not_missing d n)
  unfolding pick either not_missing
  has_mark true = power_there n d
  has_mark false = ap (λ (k : ℕ). eqb k 0) (and_zero_r n)

-- what a cell's note becomes is stored: where it stays, the list does
pub put_pick : (t : Bool) (notes : List ℕ) (cell x : ℕ) → pick t (put notes cell x) notes ≡ put notes cell (pick t x (at notes cell))
unfolding pick put at
put_pick true notes cell x = refl
put_pick false notes cell x = sym (set-get_or notes (cell - 1) 0)

-- ---- the mask of twenty cells at most fits twenty bits

pub holders_fit : (notes cells : List ℕ) (d : ℕ) → length cells ≤ 20 → holders notes d cells < 2 ^ 20
holders_fit notes cells d n = lt_of_lt_of_le (holders_small notes d cells) (pow_mono {j = 20} n)
