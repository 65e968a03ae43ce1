-- The laws of specs/Puzzle: when a cell conflicts, when a grid is full and consistent, and when it is solved.
-- Each is said once more without the walks of the definitions: over cells and peers.
-- Assumes nothing.
use Prim.Native.Nat.{ℕ, zero, suc, ◌<◌}
use mathlib.Core.Path.{◌≡◌, refl, sym, ap, ◌∙◌}
use mathlib.Core.Logic.{◌↔◌}
use mathlib.Core.Bool.{Bool, true, false, not}
use mathlib.Core.List.{List, [], ◌∷◌}
use native.Mathlib.Nat.{le_of_suc-le-suc, not-suc-le-zero}
use native.Mathlib.Omega.{arith}
use borrow.Author.Tests.{eqb-true, eqb-false, eq-eqb, ne_eqb, not-true}
use lib.Dec.{eqb}
use lib.ListN.{length, get_or}
use Rattle.sudoku.specs.Tests.{pick, both, bit}
use Rattle.sudoku.specs.Grid.{is_cell, are_peers, peers_of, at}
use Rattle.sudoku.proofs.Walks.{not_both_ways, by_test, both_true, both_left, both_right, either_left, either_right, either_cases, every_at, every_of}
use Rattle.sudoku.proofs.Grid.{cell_from, cell_to, is_cell_lem, peers_has, peers_length, peers_cell, peers_peer, PeerAt}
use Rattle.puzzle.specs.Puzzle.{is_held, holds_digit, conflicts, is_full, is_consistent, settled}

-- ---- a digit held by one of a list of cells

held_of : (digits : List ℕ) (d : ℕ) (cells : List ℕ) (i : ℕ) → i < length cells → at digits (get_or cells i 0) ≡ d → is_held digits d cells ≡ true
unfolding is_held
held_of digits d [] i h e = absurd (not-suc-le-zero h)
held_of digits d (cell ∷ cells) zero h e = either_left (eqb (at digits cell) d) (is_held digits d cells) (eq-eqb (at digits cell) d e)
held_of digits d (cell ∷ cells) (suc i) h e =
    either_right (eqb (at digits cell) d) (is_held digits d cells) (held_of digits d cells i (le_of_suc-le-suc h) e)

-- the place in the list of a cell that holds d
record Holder (digits : List ℕ) (d : ℕ) (cells : List ℕ) : Type 0 where
  place : ℕ
  within : place < length cells
  holds : at digits (get_or cells place 0) ≡ d

held_by : (digits : List ℕ) (d : ℕ) (cells : List ℕ) → is_held digits d cells ≡ true → Holder digits d cells
unfolding is_held
held_by digits d [] p = absurd (not_both_ways false p refl)
held_by digits d (cell ∷ cells) p =
    either_cases (eqb (at digits cell) d) (is_held digits d cells) p
    (λ t. record { place = 0; within = omega arith; holds = eqb-true (at digits cell) d t })
    (λ t. later (held_by digits d cells t))
  where
    later : Holder digits d cells → Holder digits d (cell ∷ cells)
    later w = record { place = suc w.place; within = omega (arith, w.within); holds = w.holds }

-- a peer of a cell holds d
pub record PeerHolds (digits : List ℕ) (d cell : ℕ) : Type 0 where
  pub peer : ℕ
  pub is_cell_lem : is_cell peer ≡ true
  pub are_peers_lem : are_peers cell peer ≡ true
  pub holds : at digits peer ≡ d

pub peers_hold : (digits : List ℕ) (d cell : ℕ) → is_cell cell ≡ true → (is_held digits d (peers_of cell) ≡ true) ↔ PeerHolds digits d cell
peers_hold digits d cell p = ((λ t. met (held_by digits d (peers_of cell) t)), (λ w. found w (peers_has cell w.peer p w.is_cell_lem w.are_peers_lem)))
  where
    met : Holder digits d (peers_of cell) → PeerHolds digits d cell
    met w =
        let inside : w.place < 20 = omega (arith, w.within, peers_length cell) in
        record {
          peer = get_or (peers_of cell) w.place 0;
          is_cell_lem = peers_cell cell p w.place inside;
          are_peers_lem = peers_peer cell p w.place inside;
          holds = w.holds;
        }

    found : (w : PeerHolds digits d cell) → PeerAt cell w.peer → is_held digits d (peers_of cell) ≡ true
    found w e = held_of digits d (peers_of cell) e.at (omega (arith, e.within, peers_length cell)) (ap (at digits) e.is ∙ w.holds)

-- ---- a cell holds a digit

pub holds_digit_lem : (digits : List ℕ) (cell : ℕ) → (at digits cell ≡ 0 → ⊥) → holds_digit digits cell ≡ true
unfolding holds_digit
holds_digit_lem digits cell h = ap not (ne_eqb (at digits cell) 0 h)

pub digit_held : (digits : List ℕ) (cell : ℕ) → holds_digit digits cell ≡ true → at digits cell ≡ 0 → ⊥
unfolding holds_digit
digit_held digits cell p = eqb-false (at digits cell) 0 (not-true (eqb (at digits cell) 0) p)

-- ---- full and consistent

pub full_exactly : (digits : List ℕ) → (is_full digits ≡ true) ↔ ((cell : ℕ) → is_cell cell ≡ true → at digits cell ≡ 0 → ⊥)
unfolding is_full
full_exactly digits = (
  (λ t cell p. digit_held digits cell (every_at (holds_digit digits) 81 1 cell t (cell_from cell p) (omega (arith, cell_to cell p)))),
  (λ h. every_of (holds_digit digits) 81 1 (λ cell l u. holds_digit_lem digits cell (h cell (is_cell_lem cell l (omega arith))))),
)

-- no two peers hold the same digit
pub consistent_exactly : (digits : List ℕ)
    → (is_consistent digits ≡ true) ↔ ((a b : ℕ) → is_cell a ≡ true → is_cell b ≡ true → are_peers a b ≡ true → at digits a ≡ at digits b → at digits a ≡ 0)
unfolding is_consistent conflicts
consistent_exactly digits = (
  (λ t a b p q w e. by_test (eqb (at digits a) 0) (λ z. eqb-true (at digits a) 0 z)
      (λ z. absurd (not_both_ways (conflicts digits a)
      (both_true _ _ (holds_digit_lem digits a (eqb-false (at digits a) 0 z))
      ((peers_hold digits (at digits a) a p).1 (record { peer = b; is_cell_lem = q; are_peers_lem = w; holds = sym e })))
      (not-true (conflicts digits a)
      (every_at (λ cell. not (conflicts digits cell)) 81 1 a t (cell_from a p) (omega (arith, cell_to a p))))))),
  (λ h. every_of (λ cell. not (conflicts digits cell)) 81 1
      (λ cell l u. by_test (conflicts digits cell) (λ t. absurd (none h cell (is_cell_lem cell l (omega arith)) t)) (λ t. ap not t))),
)
  where
    none : ((a b : ℕ) → is_cell a ≡ true → is_cell b ≡ true → are_peers a b ≡ true → at digits a ≡ at digits b → at digits a ≡ 0)
        → (cell : ℕ) → is_cell cell ≡ true → both (holds_digit digits cell) (is_held digits (at digits cell) (peers_of cell)) ≡ true → ⊥
    none h cell p t =
        let w : PeerHolds digits (at digits cell) cell = (peers_hold digits (at digits cell) cell p).0 (both_right (holds_digit digits cell) _ t) in
        digit_held digits cell (both_left _ _ t) (h cell w.peer p w.is_cell_lem w.are_peers_lem (sym w.holds))

-- ---- the status

-- not solved before: solved now exactly where it is full and consistent
pub settled_fresh : (digits : List ℕ) → settled digits 0 ≡ bit (both (is_full digits) (is_consistent digits))
unfolding settled pick bit
settled_fresh digits = picked (both (is_full digits) (is_consistent digits))
  where
    picked : (t : Bool) → pick t 1 0 ≡ bit t
    picked true = refl
    picked false = refl

pub bit_true : (t : Bool) → bit t ≡ 1 → t ≡ true
unfolding bit
bit_true true p = refl
bit_true false p = absurd (omega (arith, p))
