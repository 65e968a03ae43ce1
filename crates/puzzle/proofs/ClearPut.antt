-- What a digit put into an empty cell does to the keypad: its key's number becomes one less where no peer holds the
-- digit, and else more by the peers that counted until then; no other key's number changes.
-- Each cell is looked at before and after: what it adds to the count then, with what a peer loses, is what it added
-- before and, at the cell itself, what came.
-- Assumes nothing.
use Prim.Native.Nat.{ℕ, ◌+◌}
use mathlib.Core.Path.{◌≡◌, refl, sym, ap, subst, ◌∙◌}
use mathlib.Core.Bool.{Bool, true, false, not}
use mathlib.Core.List.{List}
use native.Mathlib.Omega.{arith}
use borrow.Author.Tests.{eqb-true, eqb-false, eq-eqb, ne_eqb}
use lib.Dec.{eqb}
use lib.ListN.{length}
use Rattle.sudoku.specs.Tests.{both, either, bit, count}
use Rattle.sudoku.specs.Grid.{is_cell, are_peers, peers_of, at, put}
use Rattle.sudoku.proofs.Walks.{by_test, same_test, both_true, both_left, both_right, either_left, either_right, either_cases}
use Rattle.sudoku.proofs.Grid.{cell_from, cell_to, is_cell_lem, at_put, at_put_other, peers_comm, peers_not_self}
use Rattle.sudoku.proofs.Counting.{count_zero, count_pairs, count_value}
use Rattle.puzzle.specs.Puzzle.{is_held, holds_digit, stands_clear, clear_cells, digits_left}
use Rattle.puzzle.proofs.Puzzle.{PeerHolds, peers_hold}
use Rattle.puzzle.proofs.Clear.{clear_is, left_exact}

-- ---- a cell

-- none counts for key 0
none_clear : (digits : List ℕ) → clear_cells digits 0 ≡ 0
unfolding clear_cells stands_clear holds_digit both
none_clear digits =
    count_zero (stands_clear digits 0) 81 1 (λ k l u. by_test (eqb (at digits k) 0) (λ t. rw t refl) (λ f. rw f refl))

-- another cell than that of the digit that came: whether it held the digit of a key, whether a peer did, whether the
-- key is that of the digit that came, and whether the cell of that digit is a peer
elsewhere : (a h e s : Bool) → bit (both a (not (either h (both e s)))) + bit (both e (both s (both a (not h)))) ≡ bit (both a (not h)) + 0
unfolding both either bit
elsewhere false h false s = refl
elsewhere false h true false = refl
elsewhere false h true true = refl
elsewhere true true false s = refl
elsewhere true true true false = refl
elsewhere true true true true = refl
elsewhere true false false s = refl
elsewhere true false true false = refl
elsewhere true false true true = refl

-- the cell itself, which held no digit and is none of its own peers
itself : (h e : Bool) → bit (both e (not (either h (both e false)))) + bit (both e (both false false)) ≡ 0 + bit (both e (not h))
unfolding both either bit
itself true true = refl
itself true false = refl
itself false true = refl
itself false false = refl

module _ (digits : List ℕ) (cell d : ℕ) (long : length digits ≡ 81) (p : is_cell cell ≡ true) (empty : at digits cell ≡ 0) where
  module _ (e : ℕ) (h : e ≡ 0 → ⊥) where
    -- the peers that hold the digit of a key: as before, and the one where it came
    held_put : (k : ℕ) → is_cell k ≡ true
        → is_held (put digits cell d) e (peers_of k) ≡ either (is_held digits e (peers_of k)) (both (eqb d e) (are_peers k cell))
    held_put k q = same_test _ _ (λ t. there ((peers_hold (put digits cell d) e k q).0 t)) back
      where
        there : PeerHolds (put digits cell d) e k → either (is_held digits e (peers_of k)) (both (eqb d e) (are_peers k cell)) ≡ true
        there w =
            by_test (eqb cell w.peer)
            (λ s. let i : cell ≡ w.peer = eqb-true cell w.peer s in
            either_right (is_held digits e (peers_of k)) _
            (both_true _ _ (eq-eqb d e (sym (at_put digits cell d long p) ∙ ap (at (put digits cell d)) i ∙ w.holds)) (ap (are_peers k) i ∙ w.are_peers_lem)))
            (λ s. either_left _ _
            ((peers_hold digits e k q).1
            (record {
              peer = w.peer;
              is_cell_lem = w.is_cell_lem;
              are_peers_lem = w.are_peers_lem;
              holds = sym (at_put_other digits cell w.peer d p w.is_cell_lem (eqb-false cell w.peer s)) ∙ w.holds;
            })))

        held_still : PeerHolds digits e k → is_held (put digits cell d) e (peers_of k) ≡ true
        held_still w =
            (peers_hold (put digits cell d) e k q).1
            (record {
              peer = w.peer;
              is_cell_lem = w.is_cell_lem;
              are_peers_lem = w.are_peers_lem;
              holds = at_put_other digits cell w.peer d p w.is_cell_lem (λ i. h (sym w.holds ∙ ap (at digits) (sym i) ∙ empty)) ∙ w.holds;
            })

        back : either (is_held digits e (peers_of k)) (both (eqb d e) (are_peers k cell)) ≡ true → is_held (put digits cell d) e (peers_of k) ≡ true
        back t =
            either_cases (is_held digits e (peers_of k)) _ t (λ s. held_still ((peers_hold digits e k q).0 s))
            (λ s. (peers_hold (put digits cell d) e k q).1
            (record {
              peer = cell;
              is_cell_lem = p;
              are_peers_lem = both_right (eqb d e) _ s;
              holds = at_put digits cell d long p ∙ eqb-true d e (both_left _ _ s);
            }))

    came : Bool
    came = both (eqb d e) (not (is_held digits e (peers_of cell)))

    lost : ℕ → Bool
    lost k = both (eqb d e) (both (are_peers cell k) (stands_clear digits e k))

    -- what each cell adds
    added : (k : ℕ) → is_cell k ≡ true → bit (stands_clear (put digits cell d) e k) + bit (lost k) ≡ bit (stands_clear digits e k) + bit (both (eqb cell k) came)
    unfolding both bit came lost
    added k q =
        rw (clear_is (put digits cell d) e k h, clear_is digits e k h, held_put k q, peers_comm cell k)
        (by_test (eqb cell k)
        (λ t. rw (t, sym (eqb-true cell k t), at_put digits cell d long p, empty, ne_eqb 0 e (λ z. h (sym z)), peers_not_self cell) (itself (is_held digits e (peers_of cell)) (eqb d e)))
        (λ f. rw (f, at_put_other digits cell k d p q (eqb-false cell k f)) (elsewhere (eqb (at digits k) e) (is_held digits e (peers_of k)) (eqb d e) (are_peers k cell))))

    keys_put : clear_cells (put digits cell d) e + count lost 81 1 ≡ clear_cells digits e + bit came
    unfolding clear_cells
    keys_put =
        count_pairs (stands_clear (put digits cell d) e) lost (stands_clear digits e) (λ k. both (eqb cell k) came) 81 1 (λ k l u. added k (is_cell_lem k l (omega arith)))
        ∙ ap (λ (n : ℕ). count (stands_clear digits e) 81 1 + n) (count_value came cell 81 1 (cell_from cell p) (omega (arith, cell_to cell p)))

  -- the key of the digit that came
  pub left_put : (d ≡ 0 → ⊥)
      → digits_left (put digits cell d) d + bit (not (is_held digits d (peers_of cell)))
      ≡ digits_left digits d + count (λ peer. both (are_peers cell peer) (stands_clear digits d peer)) 81 1
  unfolding came lost both
  left_put h = omega (arith, its_key, left_exact (put digits cell d) d, left_exact digits d)
    where
      its_key : clear_cells (put digits cell d) d + count (λ peer. both (are_peers cell peer) (stands_clear digits d peer)) 81 1
          ≡ clear_cells digits d + bit (not (is_held digits d (peers_of cell)))
      its_key =
          subst
          (λ (b : Bool). clear_cells (put digits cell d) d + count (λ peer. both b (both (are_peers cell peer) (stands_clear digits d peer))) 81 1
          ≡ clear_cells digits d + bit (both b (not (is_held digits d (peers_of cell)))))
          (eq-eqb d d refl) (keys_put d h)

  -- and any other
  pub left_put_other : (e : ℕ) → (e ≡ d → ⊥) → digits_left (put digits cell d) e ≡ digits_left digits e
  unfolding came lost both bit
  left_put_other e h =
      by_test (eqb e 0)
      (λ t. rw (eqb-true e 0 t) (omega (arith, left_exact (put digits cell d) 0, left_exact digits 0, none_clear (put digits cell d), none_clear digits)))
      (λ f. omega (arith, another (eqb-false e 0 f), left_exact (put digits cell d) e, left_exact digits e))
    where
      another : (e ≡ 0 → ⊥) → clear_cells (put digits cell d) e ≡ clear_cells digits e
      another z =
          let n : eqb d e ≡ false = ne_eqb d e (λ w. h (sym w)) in
          omega (
            arith,
            keys_put e z,
            count_zero (lost e z) 81 1 (λ k l u. ap (λ b. both b (both (are_peers cell k) (stands_clear digits e k))) n),
            ap (λ b. bit (both b (not (is_held digits e (peers_of cell))))) n,
          )
