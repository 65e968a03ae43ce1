-- What each move does to each digit and each mark: performed, taken back, and performed again from its slot.
-- Stated for every cell n and every mark m, so that nothing else can change: of a placement, mark m stands
-- at cell n afterwards exactly where it stood before and it is not the placed digit at a peer of the target.
-- Assumes nothing.
use Prim.Native.Nat.{ℕ, ◌/◌, ◌%◌, ◌^◌, ◌≤◌, ◌<◌}
use mathlib.Core.Path.{◌≡◌, refl, sym, ap, subst, ◌∙◌}
use mathlib.Core.Bool.{Bool, true, false, not}
use native.Mathlib.Omega.{arith}
use borrow.Author.Tests.{eq-eqb, ne_eqb}
use lib.Dec.{eqb}
use lib.ListN.{length, get_or}
use Rattle.sudoku.specs.Tests.{pick, both, either}
use Rattle.sudoku.specs.Grid.{in_range, on_grid, cell_of, is_cell, are_peers, at, put, peers_of}
use Rattle.sudoku.proofs.Walks.{pick_true, pick_false, both_true, both_false_right}
use Rattle.sudoku.proofs.Grid.{cell_from, cell_to, cell_of_is_cell, at_put_by, eqb_comm, range_from, peers_cell, peers_length, peers_not_self}
use Rattle.note.specs.Note.{contains}
use Rattle.puzzle.specs.Puzzle.{settled}
use Rattle.journal.specs.declared.Move.TheVariants.{Place, Erase, WriteMark, StrikeMark}
use Rattle.journal.specs.State.{State, digit_at, note_at, with_notes, put_digit, perform, struck, perform_again, take_back}
use Rattle.journal.proofs.NoteCells.{Within, strike_all_mark, strike_masked_mark, write_masked_mark, strike_at_mark, write_at_mark, strike_all_elsewhere, strike_masked_elsewhere, write_masked_elsewhere, holders_bit}
use Rattle.journal.proofs.PeerCells.{peers_within, in_peers, peer_masked}

-- ---- what a move does not touch, at any position

module _ (s : State) (row column : ℕ) where
  -- erasing touches no note and settles nothing
  pub erase_notes : (perform s (Erase row column)).notes ≡ s.notes
  unfolding perform put_digit
  erase_notes = refl

  pub erase_status : (perform s (Erase row column)).solved ≡ s.solved
  unfolding perform put_digit
  erase_status = pick_true (eqb 0 0) s.solved (settled (put s.digits (cell_of row column) 0) s.solved) refl

  pub back_erase_notes : (digitBefore mask : ℕ) → (take_back s (Erase row column) digitBefore mask).notes ≡ s.notes
  unfolding take_back put_digit
  back_erase_notes digitBefore mask = refl

  -- marks touch no digit and settle nothing
  module _ (digit : ℕ) where
    pub write_digits : (perform s (WriteMark row column digit)).digits ≡ s.digits
    unfolding perform with_notes
    write_digits = refl

    pub strike_digits : (perform s (StrikeMark row column digit)).digits ≡ s.digits
    unfolding perform with_notes
    strike_digits = refl

    pub write_status : (perform s (WriteMark row column digit)).solved ≡ s.solved
    unfolding perform with_notes
    write_status = refl

    pub strike_status : (perform s (StrikeMark row column digit)).solved ≡ s.solved
    unfolding perform with_notes
    strike_status = refl

    pub back_write_digits : (digitBefore mask : ℕ) → (take_back s (WriteMark row column digit) digitBefore mask).digits ≡ s.digits
    unfolding take_back with_notes
    back_write_digits digitBefore mask = refl

    pub back_strike_digits : (digitBefore mask : ℕ) → (take_back s (StrikeMark row column digit) digitBefore mask).digits ≡ s.digits
    unfolding take_back with_notes
    back_strike_digits digitBefore mask = refl

    -- and performed again they do what they do
    pub again_write : (mask : ℕ) → perform_again s (WriteMark row column digit) mask ≡ perform s (WriteMark row column digit)
    unfolding perform_again
    again_write mask = refl

    pub again_strike : (mask : ℕ) → perform_again s (StrikeMark row column digit) mask ≡ perform s (StrikeMark row column digit)
    unfolding perform_again
    again_strike mask = refl

  pub again_erase : (mask : ℕ) → perform_again s (Erase row column) mask ≡ perform s (Erase row column)
  unfolding perform_again
  again_erase mask = refl

-- a digit put into a cell, at each cell
put_digit_lem : (s : State) (cell d n : ℕ) → length s.digits ≡ 81 → is_cell cell ≡ true → is_cell n ≡ true → digit_at (put_digit s cell d) n ≡ pick (eqb n cell) d (digit_at s n)
unfolding put_digit digit_at
put_digit_lem s cell d n l p q =
    at_put_by s.digits cell n d l p q ∙ ap (λ (t : Bool). pick t d (at s.digits n)) (eqb_comm cell n)

-- a state of 81 digits and 81 notes, and a target on the grid
module _ (s : State) (row column : ℕ) (grid : on_grid row column ≡ true) (digits_81 : length s.digits ≡ 81) (notes_81 : length s.notes ≡ 81) where
  on : is_cell (cell_of row column) ≡ true
  on = cell_of_is_cell row column grid

  peers_in : Within (length s.notes) (peers_of (cell_of row column))
  peers_in = subst (λ (n : ℕ). Within n (peers_of (cell_of row column))) (sym notes_81) (peers_within (cell_of row column) on)

  notes_long : cell_of row column ≤ length s.notes
  notes_long = omega (arith, cell_to (cell_of row column) on)

  module _ (digit : ℕ) where
    -- ---- place

    -- the target holds the digit, every other cell what it held
    pub place_digit : (n : ℕ) → is_cell n ≡ true → digit_at (perform s (Place row column digit)) n ≡ pick (eqb n (cell_of row column)) digit (digit_at s n)
    unfolding perform with_notes digit_at
    place_digit n q = put_digit_lem s (cell_of row column) digit n digits_81 on q

    -- mark m stands at n where it stood, unless it is the placed digit and n a peer of the target
    pub place_mark : (n m : ℕ) → is_cell n ≡ true
        → contains (note_at (perform s (Place row column digit)) n) m ≡ both (contains (note_at s n) m) (not (both (eqb m digit) (are_peers (cell_of row column) n)))
    unfolding perform with_notes note_at
    place_mark n m q =
        strike_all_mark s.notes digit (peers_of (cell_of row column)) n m peers_in (cell_from n q)
        ∙ ap (λ (t : Bool). both (contains (at s.notes n) m) (not (both (eqb m digit) t))) (in_peers (cell_of row column) on n q)

    -- the note of a cell that is no peer stays
    pub place_note : (n : ℕ) → is_cell n ≡ true → are_peers (cell_of row column) n ≡ false → note_at (perform s (Place row column digit)) n ≡ note_at s n
    unfolding perform with_notes note_at
    place_note n q h =
        strike_all_elsewhere s.notes digit (peers_of (cell_of row column)) n peers_in (cell_from n q) (in_peers (cell_of row column) on n q ∙ h)

    -- and so the target's own
    pub place_own_note : note_at (perform s (Place row column digit)) (cell_of row column) ≡ note_at s (cell_of row column)
    place_own_note = place_note (cell_of row column) on (peers_not_self (cell_of row column))

    -- no peer keeps the mark, whether it holds a digit or not
    pub place_struck : (n : ℕ) → is_cell n ≡ true → are_peers (cell_of row column) n ≡ true → contains (note_at (perform s (Place row column digit)) n) digit ≡ false
    place_struck n q h =
        place_mark n digit q
        ∙ both_false_right (contains (note_at s n) digit) (not (both (eqb digit digit) (are_peers (cell_of row column) n)))
        (ap not (both_true (eqb digit digit) (are_peers (cell_of row column) n) (eq-eqb digit digit refl) h))

    -- the status is settled by the digits after it
    pub place_status : in_range digit ≡ true → (perform s (Place row column digit)).solved ≡ settled (put s.digits (cell_of row column) digit) s.solved
    unfolding perform with_notes put_digit
    place_status r =
        pick_false (eqb digit 0) s.solved (settled (put s.digits (cell_of row column) digit) s.solved)
        (ne_eqb digit 0 (λ z. omega (arith, z, range_from digit r)))

    -- bit i of its mask: peer i has the mark
    pub place_mask : (i : ℕ) → i < 20
        → eqb (struck s (Place row column digit) / 2 ^ i % 2) 1 ≡ contains (note_at s (get_or (peers_of (cell_of row column)) i 0)) digit
    unfolding struck note_at
    place_mask i h = holders_bit s.notes digit (peers_of (cell_of row column)) i (omega (arith, peers_length (cell_of row column)))

    -- ---- place taken back: the digit before, and the mark at exactly those peers whose bit is set

    module _ (digitBefore mask : ℕ) where
      pub back_place_digit : (n : ℕ) → is_cell n ≡ true
          → digit_at (take_back s (Place row column digit) digitBefore mask) n ≡ pick (eqb n (cell_of row column)) digitBefore (digit_at s n)
      unfolding take_back with_notes digit_at
      back_place_digit n q = put_digit_lem s (cell_of row column) digitBefore n digits_81 on q

      pub back_place_mark : (i m : ℕ) → i < 20 → in_range digit ≡ true
          → contains (note_at (take_back s (Place row column digit) digitBefore mask) (get_or (peers_of (cell_of row column)) i 0)) m
          ≡ either (contains (note_at s (get_or (peers_of (cell_of row column)) i 0)) m) (both (eqb m digit) (eqb (mask / 2 ^ i % 2) 1))
      unfolding take_back with_notes note_at
      back_place_mark i m h r =
          write_masked_mark s.notes digit mask (peers_of (cell_of row column)) (get_or (peers_of (cell_of row column)) i 0) m peers_in
          (cell_from (get_or (peers_of (cell_of row column)) i 0) (peers_cell (cell_of row column) on i h)) r
          ∙ ap (λ (t : Bool). either (contains (at s.notes (get_or (peers_of (cell_of row column)) i 0)) m) (both (eqb m digit) t))
          (peer_masked (cell_of row column) on mask i h)

      pub back_place_note : (n : ℕ) → is_cell n ≡ true → are_peers (cell_of row column) n ≡ false
          → note_at (take_back s (Place row column digit) digitBefore mask) n ≡ note_at s n
      unfolding take_back with_notes note_at
      back_place_note n q h =
          write_masked_elsewhere s.notes digit mask (peers_of (cell_of row column)) n peers_in (cell_from n q) (in_peers (cell_of row column) on n q ∙ h)

    -- ---- place performed again: exactly those peers lose the mark whose bit is set

    module _ (mask : ℕ) where
      pub again_place_digit : (n : ℕ) → is_cell n ≡ true
          → digit_at (perform_again s (Place row column digit) mask) n ≡ pick (eqb n (cell_of row column)) digit (digit_at s n)
      unfolding perform_again with_notes digit_at
      again_place_digit n q = put_digit_lem s (cell_of row column) digit n digits_81 on q

      pub again_place_mark : (i m : ℕ) → i < 20
          → contains (note_at (perform_again s (Place row column digit) mask) (get_or (peers_of (cell_of row column)) i 0)) m
          ≡ both (contains (note_at s (get_or (peers_of (cell_of row column)) i 0)) m) (not (both (eqb m digit) (eqb (mask / 2 ^ i % 2) 1)))
      unfolding perform_again with_notes note_at
      again_place_mark i m h =
          strike_masked_mark s.notes digit mask (peers_of (cell_of row column)) (get_or (peers_of (cell_of row column)) i 0) m peers_in
          (cell_from (get_or (peers_of (cell_of row column)) i 0) (peers_cell (cell_of row column) on i h))
          ∙ ap (λ (t : Bool). both (contains (at s.notes (get_or (peers_of (cell_of row column)) i 0)) m) (not (both (eqb m digit) t)))
          (peer_masked (cell_of row column) on mask i h)

      pub again_place_note : (n : ℕ) → is_cell n ≡ true → are_peers (cell_of row column) n ≡ false
          → note_at (perform_again s (Place row column digit) mask) n ≡ note_at s n
      unfolding perform_again with_notes note_at
      again_place_note n q h =
          strike_masked_elsewhere s.notes digit mask (peers_of (cell_of row column)) n peers_in (cell_from n q) (in_peers (cell_of row column) on n q ∙ h)

    -- ---- marks: mark digit at the target, and nothing else

    pub write_mark_lem : (n m : ℕ) → is_cell n ≡ true → in_range digit ≡ true
        → contains (note_at (perform s (WriteMark row column digit)) n) m ≡ either (contains (note_at s n) m) (both (eqb m digit) (eqb n (cell_of row column)))
    unfolding perform with_notes note_at
    write_mark_lem n m q r =
        write_at_mark s.notes (cell_of row column) digit n m (cell_from (cell_of row column) on) notes_long (cell_from n q) r
        ∙ ap (λ (t : Bool). either (contains (at s.notes n) m) (both (eqb m digit) t)) (eqb_comm (cell_of row column) n)

    pub strike_mark_lem : (n m : ℕ) → is_cell n ≡ true
        → contains (note_at (perform s (StrikeMark row column digit)) n) m ≡ both (contains (note_at s n) m) (not (both (eqb m digit) (eqb n (cell_of row column))))
    unfolding perform with_notes note_at
    strike_mark_lem n m q =
        strike_at_mark s.notes (cell_of row column) digit n m (cell_from (cell_of row column) on) notes_long (cell_from n q)
        ∙ ap (λ (t : Bool). both (contains (at s.notes n) m) (not (both (eqb m digit) t))) (eqb_comm (cell_of row column) n)

    -- taken back: a mark written is struck, a mark struck is written
    pub back_write_mark : (digitBefore mask n m : ℕ) → is_cell n ≡ true
        → contains (note_at (take_back s (WriteMark row column digit) digitBefore mask) n) m
        ≡ both (contains (note_at s n) m) (not (both (eqb m digit) (eqb n (cell_of row column))))
    unfolding take_back perform
    back_write_mark digitBefore mask n m q = strike_mark_lem n m q

    pub back_strike_mark : (digitBefore mask n m : ℕ) → is_cell n ≡ true → in_range digit ≡ true
        → contains (note_at (take_back s (StrikeMark row column digit) digitBefore mask) n) m
        ≡ either (contains (note_at s n) m) (both (eqb m digit) (eqb n (cell_of row column)))
    unfolding take_back perform
    back_strike_mark digitBefore mask n m q r = write_mark_lem n m q r

  -- ---- erase: the target holds no digit, every other cell what it held

  pub erase_digit : (n : ℕ) → is_cell n ≡ true → digit_at (perform s (Erase row column)) n ≡ pick (eqb n (cell_of row column)) 0 (digit_at s n)
  unfolding perform
  erase_digit n q = put_digit_lem s (cell_of row column) 0 n digits_81 on q

  -- taken back: the digit before
  pub back_erase_digit : (digitBefore mask n : ℕ) → is_cell n ≡ true
      → digit_at (take_back s (Erase row column) digitBefore mask) n ≡ pick (eqb n (cell_of row column)) digitBefore (digit_at s n)
  unfolding take_back
  back_erase_digit digitBefore mask n q = put_digit_lem s (cell_of row column) digitBefore n digits_81 on q
