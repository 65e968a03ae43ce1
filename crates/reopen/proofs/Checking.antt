-- Checks of a record tested one after the other, 31 to 33, and stored with their verdicts; how many cells were to play.
-- Assumes nothing.
use Prim.Native.Nat.{ℕ, suc, ◌+◌, ◌-◌, ◌*◌, ◌≤◌, ◌<◌}
use mathlib.Core.Path.{◌≡◌, refl, sym, ap, ◌∙◌}
use mathlib.Core.Bool.{not}
use mathlib.Core.List.{List, [], ◌∷◌, ◌++◌, map}
use native.Mathlib.Nat.{sub-eq-zero_of_le}
use native.Mathlib.Numerals.{add-one}
use native.Mathlib.Omega.{arith}
use lib.Dec.{eqb}
use lib.ListN.{length, length-map}
use Rattle.puzzle.specs.Givens.{is_given}
use Rattle.sudoku.specs.Tests.{both, count, listed}
use Rattle.sudoku.specs.Grid.{cell_of}
use Rattle.sudoku.proofs.Walks.{left_one, count_same}
use Rattle.sudoku.proofs.Listed.{length_listed}
use Rattle.puzzle.specs.declared.Refusal.{Refusal}
use Rattle.puzzle.specs.Refusals.{refusal, accepted, refused_if, or_else}
use Rattle.puzzle.proofs.Refusals.{or_else_by, or_else_passed}
use Rattle.journal.specs.Limits.{check_item_bytes, check_bytes}
use Rattle.journal.specs.StoredChecks.{is_right, judged, stored_bytes, stored_all}
use Rattle.journal.specs.Code.Laid.{laid}
use Rattle.journal.proofs.Memory.{length_stored, stored_length}
use Rattle.journal.proofs.Stores.{laid_over}
use Rattle.board.specs.declared.Board.{Board}
use Rattle.board.specs.Board.{state_of}
use Rattle.journal.specs.declared.Asked.{Asked}
use Rattle.record.specs.Code.Counting.{asked_from}
use Rattle.record.specs.Reopen.{to_play, check_refusal, checks_refusal}
use Rattle.reopen.specs.Code.Reopening.{asks_at, asked_number}
use Rattle.journal.specs.Bytes.{over}
use Rattle.record.proofs.Givens.{count_not}
use Rattle.record.proofs.Laying.{Laying, laying_room, laying_more, laying_end}

-- ---- cells to play

pub cells_to_play : (b : Board) → to_play b + count (is_given b.given) 81 1 ≡ 81
unfolding to_play state_of
cells_to_play b =
    omega (
      arith,
      count_not (λ cell. is_given b.given cell) 81 1,
      count_same (λ cell. is_given b.given cell) (is_given b.given) 81 1 (λ k l u. refl),
    )

-- ---- all checks

-- those that are left from check k on
abbrev pub asks_left : List ℕ → ℕ → ℕ → ℕ → List Asked
asks_left bytes start count k = listed (λ i. asked_from bytes (start + check_item_bytes * (i - 1))) (count + 1 - k) k

back_one : (n : ℕ) → n ≡ n + 1 - 1
back_one n = omega arith

pub asks_all : (bytes : List ℕ) (start count : ℕ) → asks_at bytes start count ≡ asks_left bytes start count 1
unfolding asks_at
asks_all bytes start count = ap (λ (n : ℕ). listed (λ i. asked_from bytes (start + check_item_bytes * (i - 1))) n 1) (back_one count)

pub asks_length : (bytes : List ℕ) (start n : ℕ) → length (asks_at bytes start n) ≡ n
unfolding asks_at
asks_length bytes start n = length_listed (λ i. asked_from bytes (start + check_item_bytes * (i - 1))) n 1

-- what reading stores of checks
abbrev pub stored_of : List ℕ → List Asked → List ℕ
stored_of solution cs = stored_all (map (judged solution) cs)

pub stored_size : (solution bytes : List ℕ) (start count k : ℕ) → length (stored_of solution (asks_left bytes start count k)) ≡ check_bytes * (count + 1 - k)
stored_size solution bytes start count k =
    length_stored (map (judged solution) (asks_left bytes start count k))
    ∙ ap (λ (n : ℕ). check_bytes * n)
    (length-map (asks_left bytes start count k) (judged solution)
    ∙ length_listed (λ i. asked_from bytes (start + check_item_bytes * (i - 1))) (count + 1 - k) k)

module _ (bytes : List ℕ) (start count k : ℕ) (b : Board) (cells : ℕ) (c : Asked) (h : k < count + 1) (here : c ≡ asked_from bytes (start + check_item_bytes * (k - 1))) where
  left_is : asks_left bytes start count k ≡ c ∷ asks_left bytes start count (k + 1)
  unfolding listed
  left_is =
      ap (λ (n : ℕ). listed (λ i. asked_from bytes (start + check_item_bytes * (i - 1))) n k) (left_one (count + 1) k h)
      ∙ (λ j. sym here j ∷ listed (λ i. asked_from bytes (start + check_item_bytes * (i - 1))) (count + 1 - (k + 1)) (sym (add-one k) j))

  pub stored_turn : stored_of b.solution (asks_left bytes start count k)
      ≡ stored_bytes (judged b.solution c) ++ stored_of b.solution (asks_left bytes start count (k + 1))
  unfolding stored_all
  stored_turn = ap (stored_of b.solution) left_is

  module _ (r : Refusal) (e : r ≡ check_refusal b cells k c) where
    check_turn : checks_refusal b cells k (asks_left bytes start count k) ≡ or_else r (checks_refusal b cells (k + 1) (asks_left bytes start count (k + 1)))
    unfolding checks_refusal
    check_turn =
        ap (checks_refusal b cells k) left_is
        ∙ (λ j. or_else (sym e j) (checks_refusal b cells (sym (add-one k) j) (asks_left bytes start count (k + 1))))

    pub check_stops : (r.number ≡ 0 → ⊥) → checks_refusal b cells k (asks_left bytes start count k) ≡ r
    check_stops n = check_turn ∙ or_else_by r _ r refl n

    pub check_goes_on : r.number ≡ 0
        → checks_refusal b cells k (asks_left bytes start count k) ≡ checks_refusal b cells (k + 1) (asks_left bytes start count (k + 1))
    check_goes_on n = check_turn ∙ or_else_passed r _ n

module _ (bytes : List ℕ) (start count k : ℕ) (h : count + 1 ≤ k) where
  pub asks_none : asks_left bytes start count k ≡ []
  unfolding listed
  asks_none = ap (λ (n : ℕ). listed (λ i. asked_from bytes (start + check_item_bytes * (i - 1))) n k) (sub-eq-zero_of_le h)

  pub check_ends : (b : Board) (cells : ℕ) → checks_refusal b cells k (asks_left bytes start count k) ≡ accepted
  unfolding checks_refusal
  check_ends b cells = ap (checks_refusal b cells k) asks_none

  pub stored_ends : (solution : List ℕ) → stored_of solution (asks_left bytes start count k) ≡ []
  unfolding stored_all
  stored_ends solution = ap (stored_of solution) asks_none

-- one more is tested and stored
module _ (bytes : List ℕ) (start count k : ℕ) (b : Board) (cells : ℕ) (memory checks : List ℕ) (c : Asked) (from : 1 ≤ k) (h : k < count + 1)
    (here : c ≡ asked_from bytes (start + check_item_bytes * (k - 1)))
    (passed : accepted ≡ check_refusal b cells k c)
    (tested : checks_refusal b cells 1 (asks_left bytes start count 1) ≡ checks_refusal b cells k (asks_left bytes start count k))
    (stored : Laying memory 0 (stored_of b.solution (asks_left bytes start count 1)) checks (check_bytes * (k - 1)) (stored_of b.solution (asks_left bytes start count k))) where
  abbrev one : List ℕ
  one = stored_bytes (judged b.solution c)

  turn : stored_of b.solution (asks_left bytes start count k) ≡ one ++ stored_of b.solution (asks_left bytes start count (k + 1))
  turn = stored_turn bytes start count k b cells c h here

  room : check_bytes * (k - 1) + length one ≤ length checks
  room = laying_room _ _ _ _ _ _ stored one (stored_of b.solution (asks_left bytes start count (k + 1))) turn

  pub one_more : (next : List ℕ) (at : ℕ) → at ≡ check_bytes * k → next ≡ laid checks (check_bytes * (k - 1)) one
      → (checks_refusal b cells 1 (asks_left bytes start count 1) ≡ checks_refusal b cells (k + 1) (asks_left bytes start count (k + 1)))
      × Laying memory 0 (stored_of b.solution (asks_left bytes start count 1)) next at (stored_of b.solution (asks_left bytes start count (k + 1)))
  one_more next at e q = (
    tested ∙ check_goes_on bytes start count k b cells c h here accepted passed refl,
    laying_more _ _ _ _ _ _ stored one (stored_of b.solution (asks_left bytes start count (k + 1))) next at turn
        (omega (arith, stored_length (judged b.solution c)))
        (q ∙ laid_over checks (check_bytes * (k - 1)) one room),
  )

-- all are tested and stored
module _ (bytes : List ℕ) (start count k : ℕ) (b : Board) (cells : ℕ) (memory checks : List ℕ) (at : ℕ) (h : count + 1 ≤ k) (c : cells ≡ to_play b)
    (tested : checks_refusal b cells 1 (asks_left bytes start count 1) ≡ checks_refusal b cells k (asks_left bytes start count k))
    (stored : Laying memory 0 (stored_of b.solution (asks_left bytes start count 1)) checks at (stored_of b.solution (asks_left bytes start count k))) where
  pub all_read : (accepted ≡ checks_refusal b (to_play b) 1 (asks_at bytes start count)) × (checks ≡ over memory 0 (stored_of b.solution (asks_at bytes start count)))
  all_read = (
    sym
        (ap (checks_refusal b (to_play b) 1) (asks_all bytes start count)
        ∙ ap (λ (n : ℕ). checks_refusal b n 1 (asks_left bytes start count 1)) (sym c)
        ∙ tested
        ∙ check_ends bytes start count k h b cells),
    (laying_end _ _ _ _ _ _ stored (stored_ends bytes start count k h b.solution)).1
        ∙ ap (λ (l : List Asked). over memory 0 (stored_of b.solution l)) (sym (asks_all bytes start count)),
  )

-- ---- boards that have the same givens and the same solution

module _ (b c : Board) (g : b.given ≡ c.given) (s : b.solution ≡ c.solution) where
  pub to_play_same : to_play b ≡ to_play c
  unfolding to_play state_of
  to_play_same = ap (λ (l : List ℕ). count (λ cell. not (is_given l cell)) 81 1) g

  check_same : (cells k : ℕ) (a : Asked) → check_refusal b cells k a ≡ check_refusal c cells k a
  unfolding check_refusal asked_number state_of
  check_same cells k a =
      λ j.
      or_else (refused_if (not (eqb (asked_number (g j) a) 0)) (refusal 31 k (asked_number (g j) a)))
      (or_else (refused_if (eqb a.standing 0) (refusal 32 k 0))
      (refused_if (both (is_right (s j) (cell_of a.row a.column) a.digit) (eqb cells 1)) (refusal 33 k 0)))

  pub checks_same : (cells k : ℕ) (cs : List Asked) → checks_refusal b cells k cs ≡ checks_refusal c cells k cs
  unfolding checks_refusal
  checks_same cells k [] = refl
  checks_same cells k (a ∷ cs) = λ j. or_else (check_same cells k a j) (checks_same cells (suc k) cs j)
