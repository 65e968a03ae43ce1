-- What lent memory holds that begins with the bytes of slots, or of stored checks: the
-- moves and the checks that writing reads there, and that none of them is unsound.
-- Assumes nothing.
use Prim.Native.Nat.{ℕ, suc, ◌+◌, ◌-◌, ◌*◌, ◌^◌, ◌≤◌, ◌<◌}
use mathlib.Core.Path.{◌≡◌, refl, sym, ap, subst, ◌∙◌}
use mathlib.Core.Bool.{Bool, true, false, not}
use mathlib.Core.List.{List, [], ◌∷◌, ◌++◌, map}
use native.Mathlib.Nat.{zero-add}
use native.Mathlib.Omega.{arith}
use borrow.Author.Tests.{le-leb}
use lib.ListN.{length, get_or, take, drop, take-append-drop}
use Rattle.puzzle.specs.Givens.{is_given}
use Rattle.sudoku.specs.Tests.{bit, listed}
use Rattle.sudoku.specs.Grid.{in_range, on_grid, cell_of}
use Rattle.sudoku.proofs.Walks.{not_is_false, both_true, bit_le}
use Rattle.sudoku.proofs.Each.{Each, each_at}
use Rattle.puzzle.specs.Refusals.{refusal, accepted, refused_if, first_refused}
use Rattle.puzzle.proofs.Accepted.{accepts, if_not, first_of}
use Rattle.journal.specs.declared.Slot.{Slot}
use Rattle.journal.specs.Limits.{max_moves, slot_bytes, check_bytes}
use Rattle.journal.specs.State.{State}
use Rattle.journal.specs.Slots.{slot_at, move_of, is_free, is_sound}
use Rattle.journal.specs.StoredChecks.{Stored, stored_all, stored_at, verdict_byte, is_sound_check, sound_stored}
use Rattle.journal.proofs.Memory.{slots_bytes, slot_listed, stored_listed, verdict_listed}
use Rattle.play.specs.Play.{unsound_slot}
use Rattle.journal.specs.declared.Asked.{Asked}
use Rattle.play.specs.Play.{unsound_check}
use Rattle.record.specs.Write.{moves_of, asked_of}

-- ---- a list read entry by entry

-- where f gives the entries of a list one after the other, its values changed by g are the list changed by g
pub listed_map : {A B : Type 0} (g : A → B) (f : ℕ → A) (none : A) (l : List A) (i : ℕ) → ((k : ℕ) → k < length l → f (k + i) ≡ get_or l k none)
    → listed (λ n. g (f n)) (length l) i ≡ map g l
unfolding listed
listed_map g f none [] i h = refl
listed_map g f none (x ∷ l) i h =
    λ j.
    g ((ap f (sym (zero-add i)) ∙ h 0 (omega arith)) j)
    ∷ listed_map g f none l (suc i) (λ k u. ap f {x = k + suc i} {y = suc k + i} (omega arith) ∙ h (suc k) (omega arith)) j

-- the memory is what it begins with, and the rest
whole : (memory front : List ℕ) (n : ℕ) → take n memory ≡ front → memory ≡ front ++ drop n memory
whole memory front n e = sym (take-append-drop n memory) ∙ ap (λ (l : List ℕ). l ++ drop n memory) e

-- memory that begins with the bytes of n entries; what is read at an entry's number is said of the entry
module _ {A : Type 0} (size : ℕ) (bytes : List A → List ℕ) (none : A) (memory : List ℕ) (l : List A) (n : ℕ) (many : length l ≡ n) (begins : take (size * n) memory ≡ bytes l) where
  held : {R : Type 0} (read : List ℕ → ℕ → R) (is : A → R) → ((rest : List ℕ) (i : ℕ) → i < length l → read (bytes l ++ rest) (i + 1) ≡ is (get_or l i none))
      → (i : ℕ) → i < n → read memory (i + 1) ≡ is (get_or l i none)
  held read is law i u = ap (λ (m : List ℕ). read m (i + 1)) (whole memory (bytes l) (size * n) begins) ∙ law (drop (size * n) memory) i (omega arith)

  all_held : {B : Type 0} (g : A → B) (read : ℕ → A) → ((i : ℕ) → i < n → read (i + 1) ≡ get_or l i none) → listed (λ k. g (read k)) n 1 ≡ map g l
  all_held g read is =
      ap (λ (k : ℕ). listed (λ i. g (read i)) k 1) (sym many) ∙ listed_map g read none l 1 (λ k u. is k (omega arith))

-- entries that all pass their test, numbered from 1 on
none_unsound : (test : ℕ → Bool) (inner n : ℕ) → ((i : ℕ) → i < n → test (i + 1) ≡ true) → first_refused (λ k. refused_if (not (test k)) (refusal 14 k inner)) n 1 ≡ accepted
none_unsound test inner n h =
    first_of _ n 1
    (λ k l u. accepts _ (if_not _ (refusal 14 k inner) (not_is_false _ (subst (λ (i : ℕ). test i ≡ true) (omega arith) (h (k - 1) (omega arith))))))

-- ---- slots

abbrev pub no_slot : Slot
no_slot = record { kind = 0; row = 0; column = 0; digit = 0; before = 0; struck = 0 }

abbrev pub SlotFits : Slot → Type 0
SlotFits slot = slot.struck < 2 ^ 24

abbrev pub SlotSound : State → Slot → Type 0
SlotSound s slot = is_sound s.given slot ≡ true

-- a journal that begins with the bytes of n slots
module _ (journal : List ℕ) (slots : List Slot) (n : ℕ) (many : length slots ≡ n) (fit : Each SlotFits slots) (begins : take (slot_bytes * n) journal ≡ slots_bytes slots) where
  pub slot_held : (i : ℕ) → i < n → slot_at journal (i + 1) ≡ get_or slots i no_slot
  slot_held =
      held slot_bytes slots_bytes no_slot journal slots n many begins slot_at (λ slot. slot)
      (λ rest i h. slot_listed slots rest i no_slot h (each_at SlotFits slots fit i no_slot h))

  -- writing reads their moves
  pub moves_held : moves_of journal n ≡ map move_of slots
  unfolding moves_of
  moves_held = all_held slot_bytes slots_bytes no_slot journal slots n many begins move_of (slot_at journal) slot_held

  -- and finds none unsound where each is sound
  pub slots_sound : (s : State) → Each (SlotSound s) slots → first_refused (unsound_slot s.given journal) n 1 ≡ accepted
  unfolding unsound_slot
  slots_sound s sound =
      none_unsound (λ k. is_sound s.given (slot_at journal k)) 0 n
      (λ i u. ap (is_sound s.given) (slot_held i u) ∙ each_at (SlotSound s) slots sound i no_slot (omega arith))

-- ---- stored checks

abbrev pub no_check : Stored
no_check = record { standing = 0; row = 0; column = 0; digit = 0; right = false }

abbrev pub StoredFits : Stored → Type 0
StoredFits c = c.standing < 65536

-- a check without its verdict
abbrev pub asked_in : Stored → Asked
asked_in c = record { standing = c.standing; row = c.row; column = c.column; digit = c.digit }

-- what makes a stored check sound
pub record CheckSound (s : State) (c : Stored) : Type 0 where
  pub grid : on_grid c.row c.column ≡ true
  pub free : is_given s.given (cell_of c.row c.column) ≡ false
  pub some : 1 ≤ c.standing
  pub in_time : c.standing ≤ max_moves
  pub range : in_range c.digit ≡ true

-- the test of a check that was read
check_sound : (s : State) (checks : List ℕ) (n : ℕ) (c : Stored) → stored_at checks n ≡ c → verdict_byte checks n ≡ bit c.right → CheckSound s c
    → is_sound_check s.given checks n ≡ true
unfolding is_sound_check sound_stored is_free stored_at
check_sound s checks n c e v w =
    ap (λ (x : Stored). sound_stored s.given (asked_in x) (verdict_byte checks n)) e
    ∙ ap (sound_stored s.given (asked_in c)) v
    ∙ (both_true _ _ (both_true _ _ w.grid (ap not w.free))
    (both_true _ _ (both_true _ _ (le-leb 1 c.standing w.some) (le-leb c.standing max_moves w.in_time))
    (both_true _ _ w.range (le-leb (bit c.right) 1 (bit_le c.right)))))

-- a check memory that begins with the bytes of n stored checks
module _ (checks : List ℕ) (stored : List Stored) (n : ℕ) (many : length stored ≡ n) (fit : Each StoredFits stored) (begins : take (check_bytes * n) checks ≡ stored_all stored) where
  pub stored_held : (i : ℕ) → i < n → stored_at checks (i + 1) ≡ get_or stored i no_check
  stored_held =
      held check_bytes stored_all no_check checks stored n many begins stored_at (λ c. c)
      (λ rest i h. stored_listed stored rest i no_check h (each_at StoredFits stored fit i no_check h))

  -- writing reads what was asked
  pub asked_held : asked_of checks n ≡ map asked_in stored
  unfolding asked_of stored_at
  asked_held = all_held check_bytes stored_all no_check checks stored n many begins asked_in (stored_at checks) stored_held

  -- and finds none unsound where each is sound
  pub checks_sound : (s : State) → Each (CheckSound s) stored → first_refused (unsound_check s.given checks) n 1 ≡ accepted
  unfolding unsound_check
  checks_sound s sound =
      none_unsound (is_sound_check s.given checks) 1 n
      (λ i u. check_sound s checks (i + 1) (get_or stored i no_check) (stored_held i u)
      (held check_bytes stored_all no_check checks stored n many begins verdict_byte (λ c. bit c.right) (λ rest k h. verdict_listed stored rest k no_check h) i u)
      (each_at (CheckSound s) stored sound i no_check (omega arith)))
