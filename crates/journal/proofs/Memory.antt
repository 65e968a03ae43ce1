-- The laws of lent memory: bytes laid over it, parts of it, numbers of two and three bytes;
-- slots and stored checks read back where they were written, and all others as they were.
-- Assumes nothing.
use Prim.Native.Nat.{ℕ, zero, suc, ◌+◌, ◌-◌, ◌*◌, ◌^◌, ◌≤◌, ◌<◌, min}
use mathlib.Core.Path.{◌≡◌, refl, sym, ap, ◌∙◌}
use mathlib.Core.Bool.{Bool, true, false}
use mathlib.Core.List.{List, [], ◌∷◌, ◌++◌, append_assoc, append-nil}
use native.Mathlib.Nat.{add-zero, div-div-eq-div-mul, le_of_suc-le-suc, not-suc-le-zero}
use native.Mathlib.Omega.{arith}
use borrow.Author.Tests.{leb-true, leb-false}
use lib.Dec.{eqb, leb}
use lib.ListN.{length, get_or, take, drop, length-append, length-take, length-drop, take-append-drop, get_or-append}
use lib.Seq.{length-take-le, get_or-take, get_or-drop, get_or-append-add, take_at, drop_at, take-append-le, take-take, drop-drop, ext_get_or}
use Rattle.sudoku.specs.Tests.{bit}
use Rattle.sudoku.proofs.Walks.{by_test}
use Rattle.journal.specs.declared.Slot.{Slot}
use Rattle.journal.specs.Limits.{slot_bytes, check_bytes}
use Rattle.journal.specs.Bytes.{part, over, low, second, third, two, three}
use Rattle.journal.specs.Slots.{bytes_of, slot_start, slot_part, slot_at}
use Rattle.journal.specs.StoredChecks.{Stored, stored_bytes, stored_all, check_start, verdict_byte, stored_at}

-- ---- numbers of two and three bytes

pub two_bytes : (x : ℕ) → x < 65536 → two (low x) (second x) ≡ x
unfolding two low second
two_bytes x h = omega arith

pub three_bytes : (x : ℕ) → x < 2 ^ 24 → three (low x) (second x) (third x) ≡ x
unfolding three low second third
three_bytes x h = omega (arith, div-div-eq-div-mul x 256 256)

module _ (a b : ℕ) (p : a < 256) (q : b < 256) where
  pub low_two : low (two a b) ≡ a
  unfolding low two
  low_two = omega arith

  pub second_two : second (two a b) ≡ b
  unfolding second two
  second_two = omega arith

  module _ (c : ℕ) (r : c < 256) where
    pub low_three : low (three a b c) ≡ a
    unfolding low three
    low_three = omega arith

    pub second_three : second (three a b c) ≡ b
    unfolding second three
    second_three = omega arith

    pub third_three : third (three a b c) ≡ c
    unfolding third three
    third_three = omega arith

-- ---- bytes laid over memory

pub over_nil : (l : List ℕ) (start : ℕ) → over l start [] ≡ l
unfolding over
over_nil l start = rw (append-nil, add-zero) (take-append-drop start l)

module _ (l : List ℕ) (start : ℕ) (bytes : List ℕ) (fits : start + length bytes ≤ length l) where
  front : length (take start l) ≡ start
  front = length-take-le start l (omega arith)

  -- the memory up to their end
  up_to : length (take start l ++ bytes) ≡ start + length bytes
  up_to = length-append (take start l) bytes ∙ ap (λ (n : ℕ). n + length bytes) front

  pub length_over : length (over l start bytes) ≡ length l
  unfolding over
  length_over =
      omega (
        arith,
        length-append (take start l ++ bytes) (drop (start + length bytes) l),
        length-drop (start + length bytes) l,
        up_to,
      )

  -- what stands before, inside, and after them
  in_front : (i d : ℕ) → i < start + length bytes → get_or (over l start bytes) i d ≡ get_or (take start l ++ bytes) i d
  unfolding over
  in_front i d h = get_or-append (take start l ++ bytes) (drop (start + length bytes) l) d i (omega (arith, up_to))

  pub over_before : (i d : ℕ) → i < start → get_or (over l start bytes) i d ≡ get_or l i d
  over_before i d h =
      in_front i d (omega arith) ∙ get_or-append (take start l) bytes d i (omega (arith, front)) ∙ get_or-take start l i d h

  pub over_inside : (i d : ℕ) → i < length bytes → get_or (over l start bytes) (start + i) d ≡ get_or bytes i d
  over_inside i d h =
      in_front (start + i) d (omega arith)
      ∙ ap (λ (n : ℕ). get_or (take start l ++ bytes) (n + i) d) (sym front)
      ∙ get_or-append-add (take start l) bytes i d

  pub over_after : (i d : ℕ) → start + length bytes ≤ i → get_or (over l start bytes) i d ≡ get_or l i d
  unfolding over
  over_after i d h =
      ap (λ (n : ℕ). get_or (over l start bytes) n d) {x = i} {y = length (take start l ++ bytes) + (i - (start + length bytes))} (omega (arith, up_to))
      ∙ get_or-append-add (take start l ++ bytes) (drop (start + length bytes) l) (i - (start + length bytes)) d
      ∙ get_or-drop (start + length bytes) l (i - (start + length bytes)) d
      ∙ ap (λ (n : ℕ). get_or l n d) (omega arith)

  -- the memory up to them, and up to their end
  pub take_over : (n : ℕ) → n ≤ start → take n (over l start bytes) ≡ take n l
  unfolding over
  take_over n h =
      take-append-le n (take start l ++ bytes) (drop (start + length bytes) l) (omega (arith, up_to))
      ∙ take-append-le n (take start l) bytes (omega (arith, front))
      ∙ take-take n start l h

  pub take_over_end : take (start + length bytes) (over l start bytes) ≡ take start l ++ bytes
  unfolding over
  take_over_end = take_at (take start l ++ bytes) (drop (start + length bytes) l) (start + length bytes) up_to

  -- and from their end on
  pub drop_over : drop (start + length bytes) (over l start bytes) ≡ drop (start + length bytes) l
  unfolding over
  drop_over = drop_at (take start l ++ bytes) (drop (start + length bytes) l) (start + length bytes) up_to

  pub drop_over_later : (n : ℕ) → start + length bytes ≤ n → drop n (over l start bytes) ≡ drop n l
  drop_over_later n h =
      ap (λ (k : ℕ). drop k (over l start bytes)) {x = n} {y = start + length bytes + (n - (start + length bytes))} (omega arith)
      ∙ sym (drop-drop (n - (start + length bytes)) (start + length bytes) (over l start bytes))
      ∙ ap (λ (k : List ℕ). drop (n - (start + length bytes)) k) drop_over
      ∙ drop-drop (n - (start + length bytes)) (start + length bytes) l
      ∙ ap (λ (k : ℕ). drop k l) {x = start + length bytes + (n - (start + length bytes))} {y = n} (omega arith)

  -- the part that they fill
  pub part_over : part (over l start bytes) start (length bytes) ≡ bytes
  unfolding part over
  part_over =
      ap (λ (k : List ℕ). take (length bytes) (drop start k)) (append_assoc (take start l) bytes (drop (start + length bytes) l))
      ∙ ap (λ (k : List ℕ). take (length bytes) k) (drop_at (take start l) (bytes ++ drop (start + length bytes) l) start front)
      ∙ take_at bytes (drop (start + length bytes) l) (length bytes) refl

  -- other bytes of the same length laid over the same place leave nothing of the first
  pub over_over : (other : List ℕ) → length other ≡ length bytes → over (over l start bytes) start other ≡ over l start other
  unfolding over
  over_over other e =
      λ j. take_over start (omega arith) j ++ other ++ drop_over_later (start + length other) (omega arith) j

  -- more bytes laid where these end
  pub over_join : (more : List ℕ) → start + length bytes + length more ≤ length l
      → over (over l start bytes) (start + length bytes) more ≡ over l start (bytes ++ more)
  unfolding over
  over_join more h =
      (λ j. take_over_end j ++ more ++ drop_over_later (start + length bytes + length more) (omega arith) j)
      ∙ (λ j. append_assoc (take start l) bytes more j ++ drop (ends j) l)
    where
      ends : start + length bytes + length more ≡ start + length (bytes ++ more)
      ends = omega (arith, length-append bytes more)

-- two memories of one length that agree at a part have the same part
pub part_same : (l k : List ℕ) (start n : ℕ) → length l ≡ length k → ((i : ℕ) → i < n → get_or l (start + i) 0 ≡ get_or k (start + i) 0)
    → part l start n ≡ part k start n
unfolding part
part_same l k start n e h =
    ext_get_or 0 (take n (drop start l)) (take n (drop start k))
    (length-take n (drop start l) ∙ (λ j. min n (same j)) ∙ sym (length-take n (drop start k)))
    (λ i u. inner i (omega (arith, u, length-take n (drop start l))))
  where
    same : length (drop start l) ≡ length (drop start k)
    same = omega (arith, length-drop start l, length-drop start k)

    inner : (i : ℕ) → i < n → get_or (take n (drop start l)) i 0 ≡ get_or (take n (drop start k)) i 0
    inner i u =
        get_or-take n (drop start l) i 0 u
        ∙ get_or-drop start l i 0
        ∙ h i u
        ∙ sym (get_or-drop start k i 0)
        ∙ sym (get_or-take n (drop start k) i 0 u)

-- ---- slots

pub bytes_length : (slot : Slot) → length (bytes_of slot) ≡ slot_bytes
unfolding bytes_of
bytes_length slot = refl

-- a memory that has a slot's bytes at slot n has the slot there
pub slot_read : (l : List ℕ) (n : ℕ) (slot : Slot) → slot.struck < 2 ^ 24
    → ((i : ℕ) → i < slot_bytes → get_or l (slot_start n + i) 0 ≡ get_or (bytes_of slot) i 0) → slot_at l n ≡ slot
unfolding slot_at bytes_of
slot_read l n slot small h =
    λ j.
    record {
      kind = (ap (λ (i : ℕ). get_or l i 0) (sym (add-zero (slot_start n))) ∙ h 0 (omega arith)) j;
      row = h 1 (omega arith) j;
      column = h 2 (omega arith) j;
      digit = h 3 (omega arith) j;
      before = h 4 (omega arith) j;
      struck = ((λ i. three (h 5 (omega arith) i) (h 6 (omega arith) i) (h 7 (omega arith) i)) ∙ three_bytes slot.struck small) j;
    }

-- slot n is read from its eight bytes alone
pub slot_same : (l k : List ℕ) (n : ℕ) → ((i : ℕ) → i < slot_bytes → get_or l (slot_start n + i) 0 ≡ get_or k (slot_start n + i) 0) → slot_at l n ≡ slot_at k n
unfolding slot_at
slot_same l k n h =
    λ j.
    record {
      kind = (ap (λ (i : ℕ). get_or l i 0) (sym (add-zero (slot_start n))) ∙ h 0 (omega arith) ∙ ap (λ (i : ℕ). get_or k i 0) (add-zero (slot_start n))) j;
      row = h 1 (omega arith) j;
      column = h 2 (omega arith) j;
      digit = h 3 (omega arith) j;
      before = h 4 (omega arith) j;
      struck = three (h 5 (omega arith) j) (h 6 (omega arith) j) (h 7 (omega arith) j);
    }

-- and the part that holds it too
pub slot_part_same : (l k : List ℕ) (n : ℕ) → length l ≡ length k
    → ((i : ℕ) → i < slot_bytes → get_or l (slot_start n + i) 0 ≡ get_or k (slot_start n + i) 0) → slot_part l n ≡ slot_part k n
unfolding slot_part
slot_part_same l k n e h = part_same l k (slot_start n) slot_bytes e h

-- where a slot of eight bytes is written after n slots
module _ (journal : List ℕ) (n : ℕ) (bytes : List ℕ) (eight : length bytes ≡ slot_bytes) (fits : slot_bytes * (n + 1) ≤ length journal) where
  slot_fits : slot_bytes * n + length bytes ≤ length journal
  slot_fits = omega arith

  -- the others stay
  other_bytes : (k : ℕ) → 1 ≤ k → (k ≡ n + 1 → ⊥) → (i : ℕ) → i < slot_bytes
      → get_or (over journal (slot_bytes * n) bytes) (slot_start k + i) 0 ≡ get_or journal (slot_start k + i) 0
  unfolding slot_start
  other_bytes k f ne i u =
      by_test (leb k n)
      (λ t. let le : k ≤ n = leb-true k n t in
      over_before journal (slot_bytes * n) bytes slot_fits (slot_bytes * (k - 1) + i) 0 (omega arith))
      (λ t. let gt : n < k = leb-false k n t in
      over_after journal (slot_bytes * n) bytes slot_fits (slot_bytes * (k - 1) + i) 0 (omega arith))

  pub slot_other : (k : ℕ) → 1 ≤ k → (k ≡ n + 1 → ⊥) → slot_at (over journal (slot_bytes * n) bytes) k ≡ slot_at journal k
  slot_other k f ne = slot_same (over journal (slot_bytes * n) bytes) journal k (other_bytes k f ne)

  pub slot_part_other : (k : ℕ) → 1 ≤ k → (k ≡ n + 1 → ⊥) → slot_part (over journal (slot_bytes * n) bytes) k ≡ slot_part journal k
  slot_part_other k f ne =
      slot_part_same (over journal (slot_bytes * n) bytes) journal k (length_over journal (slot_bytes * n) bytes slot_fits) (other_bytes k f ne)

  here_start : slot_start (n + 1) ≡ slot_bytes * n
  unfolding slot_start
  here_start = omega arith

  -- the part of the slot written is its bytes
  pub slot_part_written : slot_part (over journal (slot_bytes * n) bytes) (n + 1) ≡ bytes
  unfolding slot_part
  slot_part_written =
      (λ j. part (over journal (slot_bytes * n) bytes) (here_start j) (sym eight j)) ∙ part_over journal (slot_bytes * n) bytes slot_fits

  pub slot_byte_written : (i : ℕ) → i < slot_bytes → get_or (over journal (slot_bytes * n) bytes) (slot_start (n + 1) + i) 0 ≡ get_or bytes i 0
  slot_byte_written i u =
      ap (λ (k : ℕ). get_or (over journal (slot_bytes * n) bytes) (k + i) 0) here_start
      ∙ over_inside journal (slot_bytes * n) bytes slot_fits i 0 (omega arith)

-- a slot written is read back
pub slot_written : (journal : List ℕ) (n : ℕ) (slot : Slot) → slot_bytes * (n + 1) ≤ length journal → slot.struck < 2 ^ 24
    → slot_at (over journal (slot_bytes * n) (bytes_of slot)) (n + 1) ≡ slot
slot_written journal n slot fits small =
    slot_read (over journal (slot_bytes * n) (bytes_of slot)) (n + 1) slot small
    (slot_byte_written journal n (bytes_of slot) (bytes_length slot) fits)

-- a slot that stands behind n slots' bytes
pub slot_behind : (front : List ℕ) (n : ℕ) (slot : Slot) (rest : List ℕ) → length front ≡ slot_bytes * n → slot.struck < 2 ^ 24
    → slot_at (front ++ bytes_of slot ++ rest) (n + 1) ≡ slot
unfolding slot_start
slot_behind front n slot rest e small =
    slot_read (front ++ bytes_of slot ++ rest) (n + 1) slot small
    (λ i u.
    get_or-append (front ++ bytes_of slot) rest 0 (slot_bytes * (n + 1 - 1) + i) (omega (arith, length-append front (bytes_of slot), bytes_length slot))
    ∙ ap (λ (k : ℕ). get_or (front ++ bytes_of slot) k 0) {x = slot_bytes * (n + 1 - 1) + i} {y = length front + i} (omega arith)
    ∙ get_or-append-add front (bytes_of slot) i 0)

-- and one behind one slot's bytes
pub slot_later : (front rest : List ℕ) (k : ℕ) → length front ≡ slot_bytes → 1 ≤ k → slot_at (front ++ rest) (k + 1) ≡ slot_at rest k
unfolding slot_at slot_start
slot_later front rest k e f =
    λ j.
    record {
      kind = (ap (λ (i : ℕ). get_or (front ++ rest) i 0) {x = slot_bytes * (k + 1 - 1)} {y = length front + slot_bytes * (k - 1)} (omega arith)
          ∙ get_or-append-add front rest (slot_bytes * (k - 1)) 0) j;
      row = by 1 j;
      column = by 2 j;
      digit = by 3 j;
      before = by 4 j;
      struck = three (by 5 j) (by 6 j) (by 7 j);
    }
  where
    by : (i : ℕ) → get_or (front ++ rest) (slot_bytes * (k + 1 - 1) + i) 0 ≡ get_or rest (slot_bytes * (k - 1) + i) 0
    by i =
        ap (λ (m : ℕ). get_or (front ++ rest) m 0) {x = slot_bytes * (k + 1 - 1) + i} {y = length front + (slot_bytes * (k - 1) + i)} (omega arith)
        ∙ get_or-append-add front rest (slot_bytes * (k - 1) + i) 0

-- the bytes of a list of slots, one after the other
unfoldable pub slots_bytes : List Slot → List ℕ
slots_bytes [] = []
slots_bytes (slot ∷ slots) = bytes_of slot ++ slots_bytes slots

pub length_slots : (slots : List Slot) → length (slots_bytes slots) ≡ slot_bytes * length slots
unfolding slots_bytes bytes_of
length_slots [] = refl
length_slots (slot ∷ slots) = omega (arith, length_slots slots)

-- slot i + 1 of a journal that begins with them
pub slot_listed : (slots : List Slot) (rest : List ℕ) (i : ℕ) (none : Slot) → i < length slots → (get_or slots i none).struck < 2 ^ 24
    → slot_at (slots_bytes slots ++ rest) (i + 1) ≡ get_or slots i none
unfolding slots_bytes
slot_listed [] rest i none h small = absurd (not-suc-le-zero h)
slot_listed (slot ∷ slots) rest zero none h small =
    ap (λ (l : List ℕ). slot_at l 1) (append_assoc (bytes_of slot) (slots_bytes slots) rest)
    ∙ slot_behind [] 0 slot (slots_bytes slots ++ rest) refl small
slot_listed (slot ∷ slots) rest (suc i) none h small =
    ap (λ (l : List ℕ). slot_at l (suc i + 1)) (append_assoc (bytes_of slot) (slots_bytes slots) rest)
    ∙ ap (λ (k : ℕ). slot_at (bytes_of slot ++ (slots_bytes slots ++ rest)) k) {x = suc i + 1} {y = i + 1 + 1} (omega arith)
    ∙ slot_later (bytes_of slot) (slots_bytes slots ++ rest) (i + 1) (bytes_length slot) (omega arith)
    ∙ slot_listed slots rest i none (le_of_suc-le-suc h) small

-- ---- stored checks

pub stored_length : (c : Stored) → length (stored_bytes c) ≡ check_bytes
unfolding stored_bytes
stored_length c = refl

pub length_stored : (cs : List Stored) → length (stored_all cs) ≡ check_bytes * length cs
unfolding stored_all stored_bytes
length_stored [] = refl
length_stored (c ∷ cs) = omega (arith, length_stored cs)

verdict_bit : (t : Bool) → eqb (bit t) 1 ≡ t
unfolding bit
verdict_bit true = refl
verdict_bit false = refl

-- check n is read from its six bytes alone
pub stored_same : (l k : List ℕ) (n : ℕ) → ((i : ℕ) → i < check_bytes → get_or l (check_start n + i) 0 ≡ get_or k (check_start n + i) 0) → stored_at l n ≡ stored_at k n
unfolding stored_at verdict_byte
stored_same l k n h =
    λ j.
    record {
      standing =
          two ((ap (λ (i : ℕ). get_or l i 0) (sym (add-zero (check_start n))) ∙ h 0 (omega arith) ∙ ap (λ (i : ℕ). get_or k i 0) (add-zero (check_start n))) j)
          (h 1 (omega arith) j);
      row = h 2 (omega arith) j;
      column = h 3 (omega arith) j;
      digit = h 4 (omega arith) j;
      right = eqb (h 5 (omega arith) j) 1;
    }

-- a memory that has a check's bytes at check n has the check there
pub stored_read : (l : List ℕ) (n : ℕ) (c : Stored) → c.standing < 65536
    → ((i : ℕ) → i < check_bytes → get_or l (check_start n + i) 0 ≡ get_or (stored_bytes c) i 0) → stored_at l n ≡ c
unfolding stored_at verdict_byte stored_bytes
stored_read l n c small h =
    λ j.
    record {
      standing =
          ((λ i. two ((ap (λ (m : ℕ). get_or l m 0) (sym (add-zero (check_start n))) ∙ h 0 (omega arith)) i) (h 1 (omega arith) i))
          ∙ two_bytes c.standing small) j;
      row = h 2 (omega arith) j;
      column = h 3 (omega arith) j;
      digit = h 4 (omega arith) j;
      right = (ap (λ (b : ℕ). eqb b 1) (h 5 (omega arith)) ∙ verdict_bit c.right) j;
    }

-- where six bytes are written after n checks
module _ (checks : List ℕ) (n : ℕ) (bytes : List ℕ) (six : length bytes ≡ check_bytes) (fits : check_bytes * (n + 1) ≤ length checks) where
  check_fits : check_bytes * n + length bytes ≤ length checks
  check_fits = omega arith

  -- the others stay
  other_check : (k : ℕ) → 1 ≤ k → (k ≡ n + 1 → ⊥) → (i : ℕ) → i < check_bytes
      → get_or (over checks (check_bytes * n) bytes) (check_start k + i) 0 ≡ get_or checks (check_start k + i) 0
  unfolding check_start
  other_check k f ne i u =
      by_test (leb k n)
      (λ t. let le : k ≤ n = leb-true k n t in
      over_before checks (check_bytes * n) bytes check_fits (check_bytes * (k - 1) + i) 0 (omega arith))
      (λ t. let gt : n < k = leb-false k n t in
      over_after checks (check_bytes * n) bytes check_fits (check_bytes * (k - 1) + i) 0 (omega arith))

  pub stored_other : (k : ℕ) → 1 ≤ k → (k ≡ n + 1 → ⊥) → stored_at (over checks (check_bytes * n) bytes) k ≡ stored_at checks k
  stored_other k f ne = stored_same (over checks (check_bytes * n) bytes) checks k (other_check k f ne)

  pub verdict_other : (k : ℕ) → 1 ≤ k → (k ≡ n + 1 → ⊥) → verdict_byte (over checks (check_bytes * n) bytes) k ≡ verdict_byte checks k
  unfolding verdict_byte
  verdict_other k f ne = other_check k f ne 5 (omega arith)

  pub check_byte_written : (i : ℕ) → i < check_bytes → get_or (over checks (check_bytes * n) bytes) (check_start (n + 1) + i) 0 ≡ get_or bytes i 0
  unfolding check_start
  check_byte_written i u =
      ap (λ (k : ℕ). get_or (over checks (check_bytes * n) bytes) (k + i) 0) {x = check_bytes * (n + 1 - 1)} {y = check_bytes * n} (omega arith)
      ∙ over_inside checks (check_bytes * n) bytes check_fits i 0 (omega arith)

-- a check written is read back
module _ (checks : List ℕ) (n : ℕ) (c : Stored) (fits : check_bytes * (n + 1) ≤ length checks) where
  pub stored_written : c.standing < 65536 → stored_at (over checks (check_bytes * n) (stored_bytes c)) (n + 1) ≡ c
  stored_written small =
      stored_read (over checks (check_bytes * n) (stored_bytes c)) (n + 1) c small (check_byte_written checks n (stored_bytes c) (stored_length c) fits)

  pub verdict_written : verdict_byte (over checks (check_bytes * n) (stored_bytes c)) (n + 1) ≡ bit c.right
  unfolding verdict_byte stored_bytes
  verdict_written = check_byte_written checks n (stored_bytes c) (stored_length c) fits 5 (omega arith)

-- a check that stands behind n checks' bytes
module _ (front : List ℕ) (n : ℕ) (c : Stored) (rest : List ℕ) (e : length front ≡ check_bytes * n) where
  byte_behind : (i : ℕ) → i < check_bytes → get_or (front ++ stored_bytes c ++ rest) (check_start (n + 1) + i) 0 ≡ get_or (stored_bytes c) i 0
  unfolding check_start
  byte_behind i u =
      get_or-append (front ++ stored_bytes c) rest 0 (check_bytes * (n + 1 - 1) + i) (omega (arith, length-append front (stored_bytes c), stored_length c))
      ∙ ap (λ (k : ℕ). get_or (front ++ stored_bytes c) k 0) {x = check_bytes * (n + 1 - 1) + i} {y = length front + i} (omega arith)
      ∙ get_or-append-add front (stored_bytes c) i 0

  pub stored_behind : c.standing < 65536 → stored_at (front ++ stored_bytes c ++ rest) (n + 1) ≡ c
  stored_behind small = stored_read (front ++ stored_bytes c ++ rest) (n + 1) c small byte_behind

  pub verdict_behind : verdict_byte (front ++ stored_bytes c ++ rest) (n + 1) ≡ bit c.right
  unfolding verdict_byte stored_bytes
  verdict_behind = byte_behind 5 (omega arith)

-- and one behind one check's bytes
module _ (front rest : List ℕ) (k : ℕ) (e : length front ≡ check_bytes) (f : 1 ≤ k) where
  byte_later : (i : ℕ) → get_or (front ++ rest) (check_start (k + 1) + i) 0 ≡ get_or rest (check_start k + i) 0
  unfolding check_start
  byte_later i =
      ap (λ (m : ℕ). get_or (front ++ rest) m 0) {x = check_bytes * (k + 1 - 1) + i} {y = length front + (check_bytes * (k - 1) + i)} (omega arith)
      ∙ get_or-append-add front rest (check_bytes * (k - 1) + i) 0

  pub stored_later : stored_at (front ++ rest) (k + 1) ≡ stored_at rest k
  unfolding stored_at verdict_byte
  stored_later =
      λ j.
      record {
        standing =
            two ((ap (λ (i : ℕ). get_or (front ++ rest) i 0) (sym (add-zero (check_start (k + 1)))) ∙ byte_later 0 ∙ ap (λ (i : ℕ). get_or rest i 0) (add-zero (check_start k))) j)
            (byte_later 1 j);
        row = byte_later 2 j;
        column = byte_later 3 j;
        digit = byte_later 4 j;
        right = eqb (byte_later 5 j) 1;
      }

  pub verdict_later : verdict_byte (front ++ rest) (k + 1) ≡ verdict_byte rest k
  unfolding verdict_byte
  verdict_later = byte_later 5

-- check i + 1 of a memory that begins with stored checks
pub stored_listed : (cs : List Stored) (rest : List ℕ) (i : ℕ) (none : Stored) → i < length cs → (get_or cs i none).standing < 65536
    → stored_at (stored_all cs ++ rest) (i + 1) ≡ get_or cs i none
unfolding stored_all
stored_listed [] rest i none h small = absurd (not-suc-le-zero h)
stored_listed (c ∷ cs) rest zero none h small =
    ap (λ (l : List ℕ). stored_at l 1) (append_assoc (stored_bytes c) (stored_all cs) rest)
    ∙ stored_behind [] 0 c (stored_all cs ++ rest) refl small
stored_listed (c ∷ cs) rest (suc i) none h small =
    ap (λ (l : List ℕ). stored_at l (suc i + 1)) (append_assoc (stored_bytes c) (stored_all cs) rest)
    ∙ ap (λ (k : ℕ). stored_at (stored_bytes c ++ (stored_all cs ++ rest)) k) {x = suc i + 1} {y = i + 1 + 1} (omega arith)
    ∙ stored_later (stored_bytes c) (stored_all cs ++ rest) (i + 1) (stored_length c) (omega arith)
    ∙ stored_listed cs rest i none (le_of_suc-le-suc h) small

pub verdict_listed : (cs : List Stored) (rest : List ℕ) (i : ℕ) (none : Stored) → i < length cs
    → verdict_byte (stored_all cs ++ rest) (i + 1) ≡ bit (get_or cs i none).right
unfolding stored_all
verdict_listed [] rest i none h = absurd (not-suc-le-zero h)
verdict_listed (c ∷ cs) rest zero none h =
    ap (λ (l : List ℕ). verdict_byte l 1) (append_assoc (stored_bytes c) (stored_all cs) rest)
    ∙ verdict_behind [] 0 c (stored_all cs ++ rest) refl
verdict_listed (c ∷ cs) rest (suc i) none h =
    ap (λ (l : List ℕ). verdict_byte l (suc i + 1)) (append_assoc (stored_bytes c) (stored_all cs) rest)
    ∙ ap (λ (k : ℕ). verdict_byte (stored_bytes c ++ (stored_all cs ++ rest)) k) {x = suc i + 1} {y = i + 1 + 1} (omega arith)
    ∙ verdict_later (stored_bytes c) (stored_all cs ++ rest) (i + 1) (stored_length c) (omega arith)
    ∙ verdict_listed cs rest i none (le_of_suc-le-suc h)

-- ---- parts of a journal that begins with slots' bytes
