-- The laws of the four moves: what a state played from its opening keeps, and that a move
-- taken back gives the state before it and a move performed again the state after it.
-- Assumes nothing.
use Prim.Native.Nat.{ℕ, ◌-◌, ◌^◌, ◌≤◌, ◌<◌}
use mathlib.Core.Path.{◌≡◌, refl, sym, ap, subst, ◌∙◌}
use mathlib.Core.Bool.{true, false, not}
use mathlib.Core.List.{List}
use native.Mathlib.Omega.{arith}
use borrow.Author.Tests.{eqb-true, eqb-false, eq-eqb, ne_eqb, le-leb, lt-ltb, leb-true, leb-false, not-true, not-false}
use lib.Dec.{eqb, leb, ltb}
use lib.ListN.{length, replicate, get_or-replicate, get_or-eq_default}
use Rattle.sudoku.specs.Tests.{pick, both, either, bit}
use Rattle.sudoku.specs.Grid.{in_range, on_grid, cell_of, is_cell, at, put, peers_of}
use Rattle.sudoku.proofs.Walks.{by_test, not_both_ways, pick_true, pick_false, both_true, both_right, both_false_left, both_false_right, either_left, either_right, every_at}
use Rattle.sudoku.proofs.Grid.{cell_from, cell_to, is_cell_lem, cell_of_is_cell, range_from, range_to, in_range_lem, at_put, at_put_by, put_put, put_at_lem, length_put, peers_length}
use Rattle.sudoku.proofs.Each.{Each}
use Rattle.note.specs.Note.{contains, is_note}
use Rattle.note.proofs.Note.{contains_digit, is_note_zero}
use Rattle.puzzle.specs.declared.Given.{Given}
use Rattle.puzzle.specs.Givens.{ascending, digits_of, is_on, is_given}
use Rattle.puzzle.proofs.Puzzle.{settled_fresh}
use Rattle.puzzle.proofs.Givens.{OnGrid, Matches, Rising, rising, marked, given_at_lem, flag_small, given_digit, free_digit, fresh_not_full, length_digits_of, length_given_cells}
use Rattle.puzzle.specs.Puzzle.{holds_digit, is_full, is_consistent, settled}
use Rattle.journal.specs.declared.Move.{Move}
use Rattle.journal.specs.declared.Move.TheVariants.{Place, Erase, WriteMark, StrikeMark}
use Rattle.journal.specs.State.{State, opening, digit_at, note_at, with_notes, put_digit, write_at, strike_at, strike_all, holders, write_masked, every_masked, row_in, column_in, digit_in, kind_of, perform, before, struck, perform_again, take_back, stands_as_left, stands_as_found}
use Rattle.journal.specs.Slots.{slot_for, move_of, sound_place, sound_erase, sound_mark, is_sound, is_free}
use Rattle.journal.proofs.PeerCells.{peers_within, in_cells, in_peers}
use Rattle.journal.proofs.Pointwise.{place_struck}
use Rattle.journal.proofs.NoteCells.{is_in, Within, AreNotes, masked_in, masked_holders, holders_small, strike_at_mark, write_at_mark, length_strike_all, length_strike_at, length_write_at, strike_all_notes, strike_at_notes, write_at_notes, strike_again, write_back, every_masked_lem, strike_written, write_struck}

-- what holds of every state played from its opening: 81 cells, digits 0 to 9, a digit
-- in each given, notes of the marks 1 to 9, and the status that the digits have
pub record Fit (s : State) : Type 0 where
  pub given_81 : length s.given ≡ 81
  pub flags : (cell : ℕ) → is_cell cell ≡ true → at s.given cell ≤ 1
  pub digits_81 : length s.digits ≡ 81
  pub notes_81 : length s.notes ≡ 81
  pub digits : (cell : ℕ) → is_cell cell ≡ true → digit_at s cell ≤ 9
  pub givens : (cell : ℕ) → is_cell cell ≡ true → is_given s.given cell ≡ true → digit_at s cell ≡ 0 → ⊥
  pub notes : (cell : ℕ) → is_cell cell ≡ true → is_note (note_at s cell) ≡ true
  pub status : s.solved ≡ bit (both (is_full s.digits) (is_consistent s.digits))

-- what an accepted move finds, for each kind
pub record PlaceAllowed (s : State) (row column digit : ℕ) : Type 0 where
  pub grid : on_grid row column ≡ true
  pub free : is_given s.given (cell_of row column) ≡ false
  pub range : in_range digit ≡ true
  pub other : digit_at s (cell_of row column) ≡ digit → ⊥

pub record EraseAllowed (s : State) (row column : ℕ) : Type 0 where
  pub grid : on_grid row column ≡ true
  pub holds : holds_digit s.digits (cell_of row column) ≡ true
  pub free : is_given s.given (cell_of row column) ≡ false

pub record WriteAllowed (s : State) (row column digit : ℕ) : Type 0 where
  pub grid : on_grid row column ≡ true
  pub empty : holds_digit s.digits (cell_of row column) ≡ false
  pub range : in_range digit ≡ true
  pub absent : contains (note_at s (cell_of row column)) digit ≡ false

pub record StrikeAllowed (s : State) (row column digit : ℕ) : Type 0 where
  pub grid : on_grid row column ≡ true
  pub empty : holds_digit s.digits (cell_of row column) ≡ false
  pub there : contains (note_at s (cell_of row column)) digit ≡ true

abbrev pub Allowed : State → Move → Type 0
Allowed s (Place row column digit) = PlaceAllowed s row column digit
Allowed s (Erase row column) = EraseAllowed s row column
Allowed s (WriteMark row column digit) = WriteAllowed s row column digit
Allowed s (StrikeMark row column digit) = StrikeAllowed s row column digit

-- ---- cells, peers and notes of a state

module _ (s : State) (f : Fit s) where
  pub notes_are : AreNotes s.notes
  unfolding note_at at
  notes_are n l =
      by_test (leb n 81) (λ t. f.notes n (is_cell_lem n l (leb-true n 81 t)))
      (λ t. ap is_note (get_or-eq_default s.notes 0 {n = n - 1} (omega (arith, leb-false n 81 t, f.notes_81))) ∙ is_note_zero)

  notes_long : (cell : ℕ) → is_cell cell ≡ true → cell ≤ length s.notes
  notes_long cell p = omega (arith, cell_to cell p, f.notes_81)

  peers_in : (cell : ℕ) → is_cell cell ≡ true → Within (length s.notes) (peers_of cell)
  peers_in cell p = subst (λ (n : ℕ). Within n (peers_of cell)) (sym f.notes_81) (peers_within cell p)

  -- other notes of the same size keep a state fit
  fit_notes : (notes : List ℕ) → length notes ≡ 81 → AreNotes notes → Fit (with_notes s notes)
  unfolding with_notes digit_at note_at
  fit_notes notes l a =
      record {
        given_81 = f.given_81;
        flags = f.flags;
        digits_81 = f.digits_81;
        notes_81 = l;
        digits = f.digits;
        givens = f.givens;
        notes = λ cell p. a cell (cell_from cell p);
        status = f.status;
      }

  -- so does a digit put into a cell that is no given, where the status is the digits'
  fit_put : (cell d : ℕ) → is_cell cell ≡ true → is_given s.given cell ≡ false → d ≤ 9
      → (put_digit s cell d).solved ≡ bit (both (is_full (put s.digits cell d)) (is_consistent (put s.digits cell d))) → Fit (put_digit s cell d)
  unfolding put_digit digit_at note_at
  fit_put cell d p free u e =
      record {
        given_81 = f.given_81;
        flags = f.flags;
        digits_81 = length_put s.digits cell d ∙ f.digits_81;
        notes_81 = f.notes_81;
        digits = λ n q. at_most n q;
        givens = λ n q g z.
            by_test (eqb cell n)
            (λ t. not_both_ways (is_given s.given n) g
            (subst (λ (k : ℕ). is_given s.given k ≡ false) (eqb-true cell n t) free))
            (λ t. f.givens n q g (sym (pick_false (eqb cell n) d (at s.digits n) t) ∙ sym (after n q) ∙ z));
        notes = f.notes;
        status = e;
      }
    where
      after : (n : ℕ) → is_cell n ≡ true → at (put s.digits cell d) n ≡ pick (eqb cell n) d (at s.digits n)
      after n q = at_put_by s.digits cell n d f.digits_81 p q

      at_most : (n : ℕ) → is_cell n ≡ true → at (put s.digits cell d) n ≤ 9
      at_most n q =
          by_test (eqb cell n) (λ t. omega (arith, after n q, pick_true (eqb cell n) d (at s.digits n) t))
          (λ t. omega (arith, after n q, pick_false (eqb cell n) d (at s.digits n) t, f.digits n q))

-- ---- the status

-- a flag that says no is 0
pub flag_off : (t : ℕ) → not (eqb t 0) ≡ false → t ≡ 0
flag_off t e = eqb-true t 0 (not-false _ e)

-- a digit put into a cell of an unsolved board settles the status
status_put : (digits : List ℕ) (d : ℕ) (t : ℕ) → not (eqb t 0) ≡ false → (d ≡ 0 → ⊥)
    → pick (eqb d 0) t (settled digits t) ≡ bit (both (is_full digits) (is_consistent digits))
status_put digits d t e n =
    pick_false (eqb d 0) t (settled digits t) (ne_eqb d 0 n) ∙ ap (settled digits) (flag_off t e) ∙ settled_fresh digits

-- a board with an empty cell is not full
pub not_full : (digits : List ℕ) (cell : ℕ) → is_cell cell ≡ true → at digits cell ≡ 0 → is_full digits ≡ false
unfolding is_full holds_digit
not_full digits cell p z =
    by_test (is_full digits)
    (λ t. absurd (not_both_ways (not (eqb (at digits cell) 0))
    (every_at (holds_digit digits) 81 1 cell t (cell_from cell p) (omega (arith, cell_to cell p)))
    (ap not (eq-eqb (at digits cell) 0 z))))
    (λ t. t)

-- emptying a cell of an unsolved board leaves it unsolved, and not full
status_empty : (digits : List ℕ) (cell : ℕ) (t : ℕ) → length digits ≡ 81 → is_cell cell ≡ true → not (eqb t 0) ≡ false
    → pick (eqb 0 0) t (settled (put digits cell 0) t) ≡ bit (both (is_full (put digits cell 0)) (is_consistent (put digits cell 0)))
unfolding bit
status_empty digits cell t l p e =
    pick_true (eqb 0 0) t (settled (put digits cell 0) t) refl
    ∙ flag_off t e
    ∙ sym (ap bit (both_false_left (is_full (put digits cell 0)) (is_consistent (put digits cell 0)) (not_full (put digits cell 0) cell p (at_put digits cell 0 l p))))

-- putting the digit before back gives the status before
status_back : (digits : List ℕ) (d : ℕ) (t u : ℕ) → not (eqb t 0) ≡ false → not (eqb u 0) ≡ false → u ≡ bit (both (is_full digits) (is_consistent digits))
    → pick (eqb d 0) t (settled digits t) ≡ u
status_back digits d t u e z h =
    by_test (eqb d 0) (λ k. pick_true (eqb d 0) t (settled digits t) k ∙ flag_off t e ∙ sym (flag_off u z))
    (λ k. status_put digits d t e (eqb-false d 0 k) ∙ sym h)

-- ---- again, and back

-- a move performed again in the state before it, with the mask of its slot, gives the state after it
pub performed_again : (s : State) (m : Move) → Fit s → Allowed s m → perform_again s m (struck s m) ≡ perform s m
unfolding perform_again perform struck
performed_again s (Place row column digit) f a =
    ap (λ (notes : List ℕ). with_notes (put_digit s (cell_of row column) digit) notes)
    (strike_again s.notes (notes_are s f) digit (peers_of (cell_of row column)) (peers_in s f (cell_of row column) (cell_of_is_cell row column a.grid)))
performed_again s (Erase row column) f a = refl
performed_again s (WriteMark row column digit) f a = refl
performed_again s (StrikeMark row column digit) f a = refl

-- a move taken back in the state after it, with what its slot holds, gives the state before it
pub taken_back_lem : (s : State) (m : Move) → Fit s → is_on s.solved ≡ false → Allowed s m → is_on (perform s m).solved ≡ false
    → take_back (perform s m) m (before s m) (struck s m) ≡ s
unfolding take_back perform before struck digit_at note_at put_digit with_notes
taken_back_lem s (Place row column digit) f u a e =
    λ j.
    record {
      given = s.given;
      digits = digits_back j;
      notes = notes_back j;
      solved = solved_back j;
    }
  where
    digits_back : put (put s.digits (cell_of row column) digit) (cell_of row column) (at s.digits (cell_of row column)) ≡ s.digits
    digits_back =
        put_put s.digits (cell_of row column) digit (at s.digits (cell_of row column)) ∙ put_at_lem s.digits (cell_of row column)

    notes_back : write_masked (strike_all s.notes digit (peers_of (cell_of row column))) digit (holders s.notes digit (peers_of (cell_of row column))) (peers_of (cell_of row column)) ≡ s.notes
    notes_back =
        write_back s.notes (notes_are s f) digit (peers_of (cell_of row column))
        (peers_in s f (cell_of row column) (cell_of_is_cell row column a.grid)) a.range

    solved_back : (take_back (perform s (Place row column digit)) (Place row column digit) (before s (Place row column digit)) (struck s (Place row column digit))).solved ≡ s.solved
    solved_back =
        status_back (put (put s.digits (cell_of row column) digit) (cell_of row column) (at s.digits (cell_of row column))) (at s.digits (cell_of row column))
        (perform s (Place row column digit)).solved s.solved e u
        (f.status ∙ ap (λ (l : List ℕ). bit (both (is_full l) (is_consistent l))) (sym digits_back))
taken_back_lem s (Erase row column) f u a e =
    λ j. record { given = s.given; digits = digits_back j; notes = s.notes; solved = solved_back j }
  where
    digits_back : put (put s.digits (cell_of row column) 0) (cell_of row column) (at s.digits (cell_of row column)) ≡ s.digits
    digits_back = put_put s.digits (cell_of row column) 0 (at s.digits (cell_of row column)) ∙ put_at_lem s.digits (cell_of row column)

    solved_back : (take_back (perform s (Erase row column)) (Erase row column) (before s (Erase row column)) 0).solved ≡ s.solved
    solved_back =
        status_back (put (put s.digits (cell_of row column) 0) (cell_of row column) (at s.digits (cell_of row column))) (at s.digits (cell_of row column))
        (perform s (Erase row column)).solved s.solved e u
        (f.status ∙ ap (λ (l : List ℕ). bit (both (is_full l) (is_consistent l))) (sym digits_back))
taken_back_lem s (WriteMark row column digit) f u a e =
    ap (λ (notes : List ℕ). with_notes s notes)
    (strike_written s.notes (cell_of row column) digit (cell_from (cell_of row column) (cell_of_is_cell row column a.grid))
    (notes_long s f (cell_of row column) (cell_of_is_cell row column a.grid)) a.range a.absent)
taken_back_lem s (StrikeMark row column digit) f u a e =
    ap (λ (notes : List ℕ). with_notes s notes)
    (write_struck s.notes (cell_of row column) digit (cell_from (cell_of row column) (cell_of_is_cell row column a.grid))
    (notes_long s f (cell_of row column) (cell_of_is_cell row column a.grid)) a.there)

-- ---- what every move keeps

-- a move performed in a fit, unsolved state leaves a fit state
pub fit_perform : (s : State) (m : Move) → Fit s → is_on s.solved ≡ false → Allowed s m → Fit (perform s m)
unfolding perform put_digit
fit_perform s (Place row column digit) f u a =
    fit_notes (put_digit s (cell_of row column) digit)
    (fit_put s f (cell_of row column) digit (cell_of_is_cell row column a.grid) a.free (range_to digit a.range)
    (status_put (put s.digits (cell_of row column) digit) digit s.solved u (λ z. omega (arith, z, range_from digit a.range))))
    (strike_all s.notes digit (peers_of (cell_of row column)))
    (length_strike_all s.notes digit (peers_of (cell_of row column)) ∙ f.notes_81)
    (strike_all_notes s.notes (notes_are s f) digit (peers_of (cell_of row column)) (peers_in s f (cell_of row column) (cell_of_is_cell row column a.grid)))
fit_perform s (Erase row column) f u a =
    fit_put s f (cell_of row column) 0 (cell_of_is_cell row column a.grid) a.free (omega arith)
    (status_empty s.digits (cell_of row column) s.solved f.digits_81 (cell_of_is_cell row column a.grid) u)
fit_perform s (WriteMark row column digit) f u a =
    fit_notes s f (write_at s.notes (cell_of row column) digit) (length_write_at s.notes (cell_of row column) digit ∙ f.notes_81)
    (write_at_notes s.notes (notes_are s f) (cell_of row column) digit
    (cell_from (cell_of row column) (cell_of_is_cell row column a.grid)) (notes_long s f (cell_of row column) (cell_of_is_cell row column a.grid)))
fit_perform s (StrikeMark row column digit) f u a =
    fit_notes s f (strike_at s.notes (cell_of row column) digit) (length_strike_at s.notes (cell_of row column) digit ∙ f.notes_81)
    (strike_at_notes s.notes (notes_are s f) (cell_of row column) digit
    (cell_from (cell_of row column) (cell_of_is_cell row column a.grid)) (notes_long s f (cell_of row column) (cell_of_is_cell row column a.grid)))

-- no move touches the givens
pub given_kept : (s : State) (m : Move) → (perform s m).given ≡ s.given
unfolding perform put_digit with_notes
given_kept s (Place row column digit) = refl
given_kept s (Erase row column) = refl
given_kept s (WriteMark row column digit) = refl
given_kept s (StrikeMark row column digit) = refl

pub given_kept_back : (s : State) (m : Move) (digitBefore mask : ℕ) → (take_back s m digitBefore mask).given ≡ s.given
unfolding take_back put_digit with_notes
given_kept_back s (Place row column digit) digitBefore mask = refl
given_kept_back s (Erase row column) digitBefore mask = refl
given_kept_back s (WriteMark row column digit) digitBefore mask = refl
given_kept_back s (StrikeMark row column digit) digitBefore mask = refl

-- ---- what the slot finds

-- the digit and the marks that a move changed stand as it left them
pub stands_left : (s : State) (m : Move) → Fit s → Allowed s m → stands_as_left (perform s m) m (struck s m) ≡ true
unfolding stands_as_left perform struck digit_at note_at put_digit with_notes
stands_left s (Place row column digit) f a =
    both_true (eqb (at (put s.digits (cell_of row column) digit) (cell_of row column)) digit)
    (every_masked (λ peer. not (contains (at (strike_all s.notes digit (peers_of (cell_of row column))) peer) digit))
    (holders s.notes digit (peers_of (cell_of row column))) (peers_of (cell_of row column)))
    (eq-eqb (at (put s.digits (cell_of row column) digit) (cell_of row column)) digit
    (at_put s.digits (cell_of row column) digit f.digits_81 on))
    (every_masked_lem (λ peer. not (contains (at (strike_all s.notes digit (peers_of (cell_of row column))) peer) digit))
    (holders s.notes digit (peers_of (cell_of row column))) (peers_of (cell_of row column))
    (λ n h. ap not (gone n (masked_in (holders s.notes digit (peers_of (cell_of row column))) n (peers_of (cell_of row column)) h))))
  where
    on : is_cell (cell_of row column) ≡ true
    on = cell_of_is_cell row column a.grid

    gone : (n : ℕ) → is_in n (peers_of (cell_of row column)) ≡ true
        → contains (at (strike_all s.notes digit (peers_of (cell_of row column))) n) digit ≡ false
    gone n h =
        let q : is_cell n ≡ true = in_cells (cell_of row column) on n h in
        place_struck s row column a.grid f.digits_81 f.notes_81 digit n q (sym (in_peers (cell_of row column) on n q) ∙ h)
stands_left s (Erase row column) f a =
    eq-eqb (at (put s.digits (cell_of row column) 0) (cell_of row column)) 0
    (at_put s.digits (cell_of row column) 0 f.digits_81 (cell_of_is_cell row column a.grid))
stands_left s (WriteMark row column digit) f a =
    write_at_mark s.notes (cell_of row column) digit (cell_of row column) digit
    (cell_from (cell_of row column) (cell_of_is_cell row column a.grid))
    (notes_long s f (cell_of row column) (cell_of_is_cell row column a.grid))
    (cell_from (cell_of row column) (cell_of_is_cell row column a.grid)) a.range
    ∙ either_right (contains (at s.notes (cell_of row column)) digit) (both (eqb digit digit) (eqb (cell_of row column) (cell_of row column)))
    (both_true (eqb digit digit) (eqb (cell_of row column) (cell_of row column)) (eq-eqb digit digit refl) (eq-eqb (cell_of row column) (cell_of row column) refl))
stands_left s (StrikeMark row column digit) f a =
    ap not
    (strike_at_mark s.notes (cell_of row column) digit (cell_of row column) digit
    (cell_from (cell_of row column) (cell_of_is_cell row column a.grid))
    (notes_long s f (cell_of row column) (cell_of_is_cell row column a.grid))
    (cell_from (cell_of row column) (cell_of_is_cell row column a.grid))
    ∙ both_false_right (contains (at s.notes (cell_of row column)) digit) (not (both (eqb digit digit) (eqb (cell_of row column) (cell_of row column))))
    (ap not (both_true (eqb digit digit) (eqb (cell_of row column) (cell_of row column)) (eq-eqb digit digit refl) (eq-eqb (cell_of row column) (cell_of row column) refl))))

-- and in the state before it they stand as it found them
pub stands_found : (s : State) (m : Move) → Allowed s m → stands_as_found s m (before s m) (struck s m) ≡ true
unfolding stands_as_found before struck note_at
stands_found s (Place row column digit) a =
    both_true (eqb (digit_at s (cell_of row column)) (digit_at s (cell_of row column)))
    (every_masked (λ peer. contains (at s.notes peer) digit) (holders s.notes digit (peers_of (cell_of row column))) (peers_of (cell_of row column)))
    (eq-eqb (digit_at s (cell_of row column)) (digit_at s (cell_of row column)) refl)
    (every_masked_lem (λ peer. contains (at s.notes peer) digit) (holders s.notes digit (peers_of (cell_of row column))) (peers_of (cell_of row column))
    (λ n h. both_right (is_in n (peers_of (cell_of row column))) (contains (at s.notes n) digit)
    (sym (masked_holders s.notes digit n (peers_of (cell_of row column))) ∙ h)))
stands_found s (Erase row column) a = eq-eqb (digit_at s (cell_of row column)) (digit_at s (cell_of row column)) refl
stands_found s (WriteMark row column digit) a = ap not a.absent
stands_found s (StrikeMark row column digit) a = a.there

-- a mask has twenty bits
pub mask_small : (s : State) (m : Move) → struck s m < 2 ^ 20
unfolding struck
mask_small s (Place row column digit) =
    subst (λ (n : ℕ). holders s.notes digit (peers_of (cell_of row column)) < 2 ^ n) (peers_length (cell_of row column))
    (holders_small s.notes digit (peers_of (cell_of row column)))
mask_small s (Erase row column) = omega arith
mask_small s (WriteMark row column digit) = omega arith
mask_small s (StrikeMark row column digit) = omega arith

-- the slot holds the move
pub move_kept : (s : State) (m : Move) → move_of (slot_for s m) ≡ m
unfolding move_of slot_for kind_of row_in column_in digit_in pick
move_kept s (Place row column digit) = refl
move_kept s (Erase row column) = refl
move_kept s (WriteMark row column digit) = refl
move_kept s (StrikeMark row column digit) = refl

-- a cell of a fit state that holds no digit is no given
empty_free : (s : State) (cell : ℕ) → Fit s → is_cell cell ≡ true → holds_digit s.digits cell ≡ false → is_given s.given cell ≡ false
unfolding holds_digit digit_at
empty_free s cell f p h =
    by_test (is_given s.given cell) (λ t. absurd (f.givens cell p t (eqb-true (at s.digits cell) 0 (not-false (eqb (at s.digits cell) 0) h)))) (λ t. t)

-- a digit that stands is one of 1 to 9
holds_range : (s : State) (cell : ℕ) → Fit s → is_cell cell ≡ true → holds_digit s.digits cell ≡ true → in_range (digit_at s cell) ≡ true
unfolding holds_digit digit_at
holds_range s cell f p h =
    let n : at s.digits cell ≡ 0 → ⊥ = eqb-false (at s.digits cell) 0 (not-true (eqb (at s.digits cell) 0) h) in
    in_range_lem (at s.digits cell) (omega arith) (f.digits cell p)

-- the slot of an allowed move is sound
pub slot_sound : (s : State) (m : Move) → Fit s → Allowed s m → is_sound s.given (slot_for s m) ≡ true
unfolding is_sound is_free sound_place sound_erase sound_mark slot_for kind_of row_in column_in digit_in before struck both either
slot_sound s (Place row column digit) f a =
    both_true (both (on_grid row column) (not (is_given s.given (cell_of row column))))
    (either (both (in_range digit) (both (leb (digit_at s (cell_of row column)) 9) (ltb (holders s.notes digit (peers_of (cell_of row column))) (2 ^ 20)))) false)
    (both_true (on_grid row column) (not (is_given s.given (cell_of row column))) a.grid (ap not a.free))
    (either_left (both (in_range digit) (both (leb (digit_at s (cell_of row column)) 9) (ltb (holders s.notes digit (peers_of (cell_of row column))) (2 ^ 20)))) false
    (both_true (in_range digit) (both (leb (digit_at s (cell_of row column)) 9) (ltb (holders s.notes digit (peers_of (cell_of row column))) (2 ^ 20)))
    a.range
    (both_true (leb (digit_at s (cell_of row column)) 9) (ltb (holders s.notes digit (peers_of (cell_of row column))) (2 ^ 20))
    (le-leb (digit_at s (cell_of row column)) 9 (f.digits (cell_of row column) (cell_of_is_cell row column a.grid)))
    (lt-ltb (holders s.notes digit (peers_of (cell_of row column))) (2 ^ 20) (mask_small s (Place row column digit))))))
slot_sound s (Erase row column) f a =
    both_true (both (on_grid row column) (not (is_given s.given (cell_of row column)))) (either (both (in_range (digit_at s (cell_of row column))) true) false)
    (both_true (on_grid row column) (not (is_given s.given (cell_of row column))) a.grid (ap not a.free))
    (either_left (both (in_range (digit_at s (cell_of row column))) true) false
    (both_true (in_range (digit_at s (cell_of row column))) true
    (holds_range s (cell_of row column) f (cell_of_is_cell row column a.grid) a.holds) refl))
slot_sound s (WriteMark row column digit) f a =
    both_true (both (on_grid row column) (not (is_given s.given (cell_of row column)))) (both (in_range digit) true)
    (both_true (on_grid row column) (not (is_given s.given (cell_of row column))) a.grid
    (ap not (empty_free s (cell_of row column) f (cell_of_is_cell row column a.grid) a.empty)))
    (both_true (in_range digit) true a.range refl)
slot_sound s (StrikeMark row column digit) f a =
    both_true (both (on_grid row column) (not (is_given s.given (cell_of row column)))) (both (in_range digit) true)
    (both_true (on_grid row column) (not (is_given s.given (cell_of row column))) a.grid
    (ap not (empty_free s (cell_of row column) f (cell_of_is_cell row column a.grid) a.empty)))
    (both_true (in_range digit) true (contains_digit (note_at s (cell_of row column)) digit a.there) refl)

-- ---- the opening

-- a list of empty notes
pub empty_note : (cell : ℕ) → is_cell cell ≡ true → at (replicate 81 0) cell ≡ 0
unfolding at
empty_note cell q = get_or-replicate {A = ℕ} 81 (cell - 1) 0 0 (omega (arith, cell_from cell q, cell_to cell q))

-- givens on the grid that ascend and match a solution of digits 1 to 9, fewer than 81, open a fit state
pub fit_opening : (solution : List ℕ) (gs : List Given) → Each OnGrid gs → Each (Matches solution) gs → ascending gs ≡ true
    → ((cell : ℕ) → is_cell cell ≡ true → in_range (at solution cell) ≡ true) → length gs < 81 → Fit (opening gs)
unfolding opening digit_at note_at bit
fit_opening solution gs on matches up range h =
    record {
      given_81 = length_given_cells gs;
      flags = λ cell q. flag_small gs cell on q;
      digits_81 = length_digits_of gs;
      notes_81 = refl;
      digits = λ cell q.
          by_test (marked gs cell) (λ t. omega (arith, given_digit solution gs on rise matches cell q t, range_to (at solution cell) (range cell q)))
          (λ t. omega (arith, free_digit gs on rise cell q t));
      givens = λ cell q g z.
          omega (arith, z, given_digit solution gs on rise matches cell q (sym (given_at_lem gs cell on q) ∙ g), range_from (at solution cell) (range cell q));
      notes = λ cell q. ap is_note (empty_note cell q) ∙ is_note_zero;
      status = sym (ap bit (both_false_left (is_full (digits_of gs)) (is_consistent (digits_of gs)) (fresh_not_full gs on rise h)));
    }
  where
    rise : Rising 0 gs
    rise = rising solution gs on matches up
