-- The twenty peers of a cell as a list of note cells: each is one of the 81,
-- none stands there twice, and a cell is among them exactly where it is a peer.
-- Assumes nothing.
use Prim.Native.Nat.{ℕ, ◌/◌, ◌%◌, ◌^◌, ◌<◌}
use mathlib.Core.Path.{◌≡◌, subst}
use mathlib.Core.Bool.{true}
use native.Mathlib.Omega.{arith}
use lib.Dec.{eqb}
use lib.ListN.{get_or}
use Rattle.sudoku.specs.Grid.{is_cell, are_peers, peers_of}
use Rattle.sudoku.proofs.Walks.{same_test, Entry}
use Rattle.sudoku.proofs.Grid.{peers_from, peers_to, peers_cell, peers_apart, peers_length, peers_peer, peers_has, PeerAt}
use Rattle.journal.proofs.NoteCells.{is_in, is_masked, Within, Apart, in_at, in_of, masked_at}

module _ (cell : ℕ) (p : is_cell cell ≡ true) where
  -- each peer of a cell is one of the 81
  pub peers_within : Within 81 (peers_of cell)
  peers_within i h = (peers_from cell p i (omega (arith, peers_length cell)), peers_to cell p i (omega (arith, peers_length cell)))

  -- no two are one
  pub peers_distinct : Apart (peers_of cell)
  peers_distinct i j h u n e = peers_apart cell p i j (omega (arith, peers_length cell)) (omega (arith, peers_length cell)) n e

  -- what is among them is a cell
  pub in_cells : (n : ℕ) → is_in n (peers_of cell) ≡ true → is_cell n ≡ true
  in_cells n h = entry (in_at n (peers_of cell) h)
    where
      entry : Entry (peers_of cell) n → is_cell n ≡ true
      entry w = subst (λ (k : ℕ). is_cell k ≡ true) w.is (peers_cell cell p w.at (omega (arith, w.within, peers_length cell)))

  -- a cell is among them exactly where it is a peer
  pub in_peers : (n : ℕ) → is_cell n ≡ true → is_in n (peers_of cell) ≡ are_peers cell n
  in_peers n q =
      same_test (is_in n (peers_of cell)) (are_peers cell n) (λ t. there (in_at n (peers_of cell) t)) (λ t. here (peers_has cell n p q t))
    where
      there : Entry (peers_of cell) n → are_peers cell n ≡ true
      there w =
          subst (λ (k : ℕ). are_peers cell k ≡ true) w.is (peers_peer cell p w.at (omega (arith, w.within, peers_length cell)))

      here : PeerAt cell n → is_in n (peers_of cell) ≡ true
      here w =
          subst (λ (k : ℕ). is_in k (peers_of cell) ≡ true) w.is (in_of (peers_of cell) w.at (omega (arith, w.within, peers_length cell)))

  -- bit i of a mask is peer i's
  pub peer_masked : (mask i : ℕ) → i < 20 → is_masked mask (get_or (peers_of cell) i 0) (peers_of cell) ≡ eqb (mask / 2 ^ i % 2) 1
  peer_masked mask i h = masked_at mask (peers_of cell) i peers_distinct (omega (arith, peers_length cell))
