-- The laws of the pass that makes the keypad: each key's number starts at nine, and each cell that counts for a key
-- takes one off it. So before a cell it is what will be left, and the cells from there on that count: nothing is cut
-- off.
-- Assumes nothing.
use Prim.Native.Nat.{ℕ, ◌+◌, ◌-◌, ◌≤◌, ◌<◌}
use mathlib.Core.Path.{◌≡◌, refl, sym, ap, ◌∙◌}
use mathlib.Core.Bool.{true, false}
use mathlib.Core.List.{List}
use native.Mathlib.Omega.{arith}
use borrow.Author.Tests.{eqb-true, eqb-false}
use lib.Dec.{eqb}
use lib.ListN.{length, get_or, set, replicate, length-set}
use Rattle.std.proofs.lemmas.List.{same_lists, get_or-replicate, get_or-set_same, get_or-set_other}
use Rattle.sudoku.specs.Tests.{both, count}
use Rattle.sudoku.specs.Grid.{in_range, at}
use Rattle.sudoku.proofs.Walks.{by_test, both_first, count_more, count_skips, count_all}
use Rattle.sudoku.proofs.Grid.{range_from, range_to, in_range_lem}
use Rattle.sudoku.proofs.Listed.{length_listed, listed_at}
use Rattle.puzzle.specs.Puzzle.{stands_clear, clear_cells, digits_left, keypad}
use Rattle.puzzle.proofs.Clear.{clear_holds, left_exact}

module _ (digits : List ℕ) where
  -- the cells from one on are still to be taken off
  abbrev pub Ahead : List ℕ → ℕ → Type 0
  Ahead left cell = (length left ≡ 9) × ((k d : ℕ) → k < 9 → get_or left k d ≡ digits_left digits (k + 1) + count (stands_clear digits (k + 1)) (82 - cell) cell)

  pub ahead_start : Ahead (replicate 9 9) 1
  unfolding clear_cells
  ahead_start = (refl, λ k d l. get_or-replicate 9 k 9 d l ∙ sym (left_exact digits (k + 1)))

  pub ahead_done : (left : List ℕ) (cell : ℕ) → 82 ≤ cell → Ahead left cell → left ≡ keypad digits
  unfolding keypad
  ahead_done left cell h a =
      same_lists left _ (a.0 ∙ sym (length_listed (digits_left digits) 9 1))
      (λ k d l. omega (arith, a.1 k d (omega (arith, a.0)), count_all (stands_clear digits (k + 1)) 82 cell h)
      ∙ ap (digits_left digits) {x = k + 1} {y = 1 + k} (omega arith)
      ∙ sym (listed_at (digits_left digits) 9 1 k d (omega (arith, a.0))))

  -- a turn: the cell counts for the key of its digit, or for none
  module _ (left : List ℕ) (cell digit : ℕ) (u : cell < 82) (is : digit ≡ at digits cell) (a : Ahead left cell) where
    counts_not : (e : ℕ) → eqb digit e ≡ false → stands_clear digits e cell ≡ false
    counts_not e f = by_test (stands_clear digits e cell) (λ t. absurd (eqb-false digit e f (is ∙ (clear_holds digits e cell t).1))) (λ z. z)

    pub ahead_other : both (in_range digit) (stands_clear digits digit cell) ≡ false → Ahead left (cell + 1)
    ahead_other p = (a.0, λ k d l. omega (arith, a.1 k d l, count_skips (stands_clear digits (k + 1)) 82 cell u (other k l)))
      where
        other : (k : ℕ) → k < 9 → stands_clear digits (k + 1) cell ≡ false
        other k l =
            by_test (eqb digit (k + 1))
            (λ t. let e : digit ≡ k + 1 = eqb-true digit (k + 1) t in
            ap (λ (x : ℕ). stands_clear digits x cell) (sym e)
            ∙ sym (both_first (in_range digit) _ (in_range_lem digit (omega (arith, e)) (omega (arith, e))))
            ∙ p)
            (counts_not (k + 1))

    module _ (p : in_range digit ≡ true) (c : stands_clear digits digit cell ≡ true) where
      -- the digit's key
      key : digit - 1 + 1 ≡ digit
      key = omega (arith, range_from digit p)

      pub ahead_one : 1 ≤ get_or left (digit - 1) 0
      ahead_one =
          omega (
            arith,
            a.1 (digit - 1) 0 (omega (arith, key, range_to digit p)),
            count_more (stands_clear digits (digit - 1 + 1)) 82 cell 0 u (ap (λ (x : ℕ). stands_clear digits x cell) key ∙ c),
          )

      pub ahead_counted : Ahead (set left (digit - 1) (get_or left (digit - 1) 0 - 1)) (cell + 1)
      ahead_counted =
          (length-set left (digit - 1) _ ∙ a.0, λ k d l. by_test (eqb digit (k + 1)) (λ s. its_own k d l (omega (arith, eqb-true digit (k + 1) s))) (λ s. another k d l s))
        where
          less : ℕ
          less = get_or left (digit - 1) 0 - 1

          its_own : (k d : ℕ) → k < 9 → digit - 1 ≡ k
              → get_or (set left (digit - 1) less) k d ≡ digits_left digits (k + 1) + count (stands_clear digits (k + 1)) (82 - (cell + 1)) (cell + 1)
          its_own k d l e =
              ap (λ (j : ℕ). get_or (set left (digit - 1) less) j d) (sym e)
              ∙ get_or-set_same left (digit - 1) less d (omega (arith, a.0, e))
              ∙ omega (
                arith,
                ap (λ (j : ℕ). get_or left j 0) e,
                a.1 k 0 l,
                count_more (stands_clear digits (k + 1)) 82 cell 0 u (ap (λ (x : ℕ). stands_clear digits x cell) {x = k + 1} {y = digit} (omega (arith, key, e)) ∙ c),
              )

          another : (k d : ℕ) → k < 9 → eqb digit (k + 1) ≡ false
              → get_or (set left (digit - 1) less) k d ≡ digits_left digits (k + 1) + count (stands_clear digits (k + 1)) (82 - (cell + 1)) (cell + 1)
          another k d l s =
              get_or-set_other left (digit - 1) k less d (λ e. eqb-false digit (k + 1) s (omega (arith, key, e)))
              ∙ omega (arith, a.1 k d l, count_skips (stands_clear digits (k + 1)) 82 cell u (counts_not (k + 1) s))
