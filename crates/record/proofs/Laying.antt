-- A record laid into the output, item after item: what is left to lay decides, and how many bytes the groups have.
-- Assumes nothing.
use Prim.Native.Nat.{ℕ, zero, suc, ◌+◌, ◌-◌, ◌*◌, ◌≤◌, ◌<◌}
use mathlib.Core.Path.{◌≡◌, refl, sym, ap, ◌∙◌}
use mathlib.Core.List.{List, [], ◌∷◌, ◌++◌, map}
use native.Mathlib.Nat.{sub-eq-zero_of_le}
use native.Mathlib.Numerals.{add-one}
use native.Mathlib.Omega.{arith}
use lib.ListN.{length, length-append}
use Rattle.puzzle.specs.Givens.{is_given}
use Rattle.sudoku.specs.Tests.{count, listed}
use Rattle.sudoku.specs.Grid.{at}
use Rattle.sudoku.proofs.Walks.{left_one}
use Rattle.sudoku.proofs.Listed.{length_listed}
use Rattle.puzzle.specs.declared.Given.{Given as Setters}
use Rattle.puzzle.proofs.GivensBy.{bytes_left, bytes_turn, bytes_none, by_length}
use Rattle.journal.specs.Limits.{check_item_bytes, given_item_bytes, undone_item_bytes}
use Rattle.journal.specs.Bytes.{low, second, over}
use Rattle.journal.specs.Slots.{slot_at, move_of}
use Rattle.journal.specs.StoredChecks.{asked_at}
use Rattle.journal.proofs.Memory.{over_nil, over_join, length_over}
use Rattle.board.specs.declared.Board.{Board}
use Rattle.record.specs.declared.Item.{Item}
use Rattle.record.specs.declared.Item.TheVariants.{Played}
use Rattle.record.specs.Items.{encode, encode_all, given_item, check_item, record_of}
use Rattle.record.specs.Write.{givens_of, moves_of, asked_of, parts_of}
use Rattle.record.specs.Code.Laying.{given_bytes, givens_bytes, moves_bytes, move_in, check_in, bytes_to}
use Rattle.record.proofs.Lengths.{length_moves, record_joined, record_length}

-- ---- laying

-- `all` is laid over `out₀` from `start` on: so far the output is `out`, and `left` is still to be laid from `at` on
pub record Laying (out₀ : List ℕ) (start : ℕ) (all out : List ℕ) (at : ℕ) (left : List ℕ) : Type 0 where
  pub same : length out ≡ length out₀
  pub ends : at + length left ≡ start + length all
  pub fits : at + length left ≤ length out
  pub whole : over out at left ≡ over out₀ start all

pub laying_start : (out : List ℕ) (start : ℕ) (all : List ℕ) → start + length all ≤ length out → Laying out start all out start all
laying_start out start all h = record { same = refl; ends = refl; fits = h; whole = refl }

module _ (out₀ : List ℕ) (start : ℕ) (all out : List ℕ) (at : ℕ) (left : List ℕ) (l : Laying out₀ start all out at left) where
  -- the next bytes have room
  pub laying_room : (x rest : List ℕ) → left ≡ x ++ rest → at + length x ≤ length out
  laying_room x rest e = omega (arith, l.fits, ap length e, length-append x rest)

  -- and are laid
  pub laying_more : (x rest next : List ℕ) (on : ℕ) → left ≡ x ++ rest → on ≡ at + length x → next ≡ over out at x
      → Laying out₀ start all next on rest
  laying_more x rest next on e a o =
      record {
        same = ap length o ∙ size ∙ l.same;
        ends = omega (arith, l.ends, ap length e, length-append x rest);
        fits = omega (arith, l.fits, ap length e, length-append x rest, ap length o, size);
        whole =
            (λ j. over (o j) (a j) rest)
            ∙ over_join out at x room rest (omega (arith, l.fits, ap length e, length-append x rest))
            ∙ ap (over out at) (sym e)
            ∙ l.whole;
      }
    where
      room : at + length x ≤ length out
      room = laying_room x rest e

      size : length (over out at x) ≡ length out
      size = length_over out at x room

  -- nothing is left
  pub laying_end : left ≡ [] → (at ≡ start + length all) × (out ≡ over out₀ start all)
  laying_end e = (omega (arith, l.ends, ap length e), sym (over_nil out at) ∙ ap (over out at) (sym e) ∙ l.whole)

-- ---- walks that lay the parts of the numbers up to e, which is not reached, one after the other

-- `left` is what is left to lay from a number on
pub record Walk (left part : ℕ → List ℕ) (e : ℕ) : Type 0 where
  pub turn : (i : ℕ) → i < e → left i ≡ part i ++ left (i + 1)
  pub none : (i : ℕ) → e ≤ i → left i ≡ []

module _ (left part : ℕ → List ℕ) (e : ℕ) (w : Walk left part e) (out₀ : List ℕ) (start : ℕ) (all out : List ℕ) (at i : ℕ) (l : Laying out₀ start all out at (left i)) where
  pub part_room : i < e → at + length (part i) ≤ length out
  part_room h = laying_room _ _ _ _ _ _ l (part i) (left (i + 1)) (w.turn i h)

  pub part_laid : (next : List ℕ) (on : ℕ) → i < e → (on ≡ at + length (part i)) × (next ≡ over out at (part i)) → Laying out₀ start all next on (left (i + 1))
  part_laid next on h q = laying_more _ _ _ _ _ _ l (part i) (left (i + 1)) next on (w.turn i h) q.0 q.1

  pub all_laid : e ≤ i → (bytes : List ℕ) → bytes ≡ all → (at ≡ start + length bytes) × (out ≡ over out₀ start bytes)
  all_laid h bytes q =
      let end = laying_end _ _ _ _ _ _ l (w.none i h) in
      (omega (arith, end.0, ap length q), end.1 ∙ ap (over out₀ start) (sym q))

-- what is left of the items of a function's values
unfoldable pub items_left : (ℕ → Item) → ℕ → ℕ → List ℕ
items_left items e i = encode_all (listed items (e - i) i)

pub items_walk : (items : ℕ → Item) (e : ℕ) → Walk (items_left items e) (λ i. encode (items i)) e
unfolding items_left listed encode_all
items_walk items e =
    record {
      turn =
          λ i h.
          ap (λ (n : ℕ). encode_all (listed items n i)) (left_one e i h)
          ∙ ap (λ (k : ℕ). encode (items i) ++ encode_all (listed items (e - (i + 1)) k)) (sym (add-one i));
      none = λ i h. ap (λ (n : ℕ). encode_all (listed items n i)) (sub-eq-zero_of_le h);
    }

back_one : (n : ℕ) → n + 1 - 1 ≡ n
back_one n = omega arith

pub all_left : (items : ℕ → Item) (n : ℕ) → bytes_to items n ≡ items_left items (n + 1) 1
unfolding bytes_to items_left
all_left items n = ap (λ (k : ℕ). encode_all (listed items k 1)) (sym (back_one n))

-- moves and checks
map_listed : {A B : Type 0} (g : A → B) (f : ℕ → A) (n i : ℕ) → map g (listed f n i) ≡ listed (λ (k : ℕ). g (f k)) n i
unfolding listed
map_listed g f zero i = refl
map_listed g f (suc n) i = ap (λ l. g (f i) ∷ l) (map_listed g f n (suc i))

pub moves_by : (journal : List ℕ) (made : ℕ) → moves_bytes journal made ≡ bytes_to (move_in journal) made
unfolding moves_bytes moves_of bytes_to
moves_by journal made = ap encode_all (map_listed Played (λ (n : ℕ). move_of (slot_at journal n)) made 1)

pub checks_by : (checks : List ℕ) (n : ℕ) → encode_all (map check_item (asked_of checks n)) ≡ bytes_to (check_in checks) n
unfolding asked_of bytes_to
checks_by checks n = ap encode_all (map_listed check_item (asked_at checks) n 1)

pub moves_left : (journal : List ℕ) (made : ℕ) → moves_bytes journal made ≡ items_left (move_in journal) (made + 1) 1
moves_left journal made = moves_by journal made ∙ all_left (move_in journal) made

-- how many bytes the moves have: all, the move at n and those behind it, none
pub length_all : (journal : List ℕ) (made : ℕ) → length (moves_bytes journal made) ≡ length (items_left (move_in journal) (made + 1) 1)
length_all journal made = ap length (moves_left journal made)

module _ (journal : List ℕ) (made n : ℕ) where
  pub length_turn : n < made + 1
      → length (items_left (move_in journal) (made + 1) n) ≡ length (encode (Played (move_of (slot_at journal n)))) + length (items_left (move_in journal) (made + 1) (n + 1))
  length_turn h = ap length ((items_walk (move_in journal) (made + 1)).turn n h) ∙ length-append (encode (move_in journal n)) (items_left (move_in journal) (made + 1) (n + 1))

  pub length_none : made + 1 ≤ n → length (items_left (move_in journal) (made + 1) n) ≡ 0
  length_none h = ap length ((items_walk (move_in journal) (made + 1)).none n h)

-- ---- givens

-- the bytes of givens as items
abbrev items_bytes : List Setters → List ℕ
items_bytes gs = encode_all (map given_item gs)

module _ (b : Board) where
  unfoldable pub givens_left : ℕ → List ℕ
  givens_left cell = bytes_left items_bytes (is_given b.given) (at b.digits) cell

  pub givens_walk : Walk givens_left (given_bytes b.given b.digits) 82
  unfolding givens_left given_bytes encode_all encode given_item
  givens_walk =
      record {
        turn = bytes_turn items_bytes (λ g. encode (given_item g)) refl (λ g gs. refl) (is_given b.given) (at b.digits);
        none = bytes_none items_bytes (λ g. encode (given_item g)) refl (λ g gs. refl) (is_given b.given) (at b.digits);
      }

  pub givens_all : givens_bytes b ≡ givens_left 1
  unfolding givens_bytes givens_of givens_left
  givens_all = refl

-- ---- lengths

module _ (b : Board) (journal checks : List ℕ) where
  pub length_record : length (record_of (parts_of b journal checks))
      ≡ given_item_bytes * count (is_given b.given) 81 1 + length (moves_bytes journal b.made) + undone_item_bytes + check_item_bytes * b.checks
  unfolding parts_of givens_of moves_bytes asked_of
  length_record =
      omega (
        arith,
        record_length (parts_of b journal checks),
        by_length (is_given b.given) (at b.digits) 81 1,
        length_moves (moves_of journal b.made),
        length_listed (asked_at checks) b.checks 1,
      )

-- ---- the whole record, group by group

module _ (b : Board) (journal checks out : List ℕ) (h : length (record_of (parts_of b journal checks)) ≤ length out) where
  -- the undone count's item
  abbrev count_bytes : List ℕ
  count_bytes = 6 ∷ low (b.made - b.standing) ∷ second (b.made - b.standing) ∷ []

  abbrev of_checks : List ℕ
  of_checks = bytes_to (check_in checks) b.checks

  abbrev of_moves : List ℕ
  of_moves = bytes_to (move_in journal) b.made

  groups : record_of (parts_of b journal checks) ≡ givens_bytes b ++ (of_moves ++ (count_bytes ++ of_checks))
  unfolding parts_of givens_bytes moves_bytes encode
  groups =
      record_joined (parts_of b journal checks)
      ∙ (λ j. givens_bytes b ++ (moves_by journal b.made j ++ (count_bytes ++ checks_by checks b.checks j)))

  laying_0 : Laying out 0 (record_of (parts_of b journal checks)) out 0 (record_of (parts_of b journal checks))
  laying_0 = laying_start out 0 (record_of (parts_of b journal checks)) (omega arith)

  pub givens_room_lem : length (givens_bytes b) ≤ length out
  givens_room_lem = omega (arith, laying_room _ _ _ _ _ _ laying_0 (givens_bytes b) (of_moves ++ (count_bytes ++ of_checks)) groups)

  module _ (out1 : List ℕ) (at1 : ℕ) (l1 : (at1 ≡ length (givens_bytes b)) × (out1 ≡ over out 0 (givens_bytes b))) where
    laying_1 : Laying out 0 (record_of (parts_of b journal checks)) out1 at1 (of_moves ++ (count_bytes ++ of_checks))
    laying_1 = laying_more _ _ _ _ _ _ laying_0 (givens_bytes b) (of_moves ++ (count_bytes ++ of_checks)) out1 at1 groups (omega (arith, l1.0)) l1.1

    pub moves_room : at1 + length of_moves ≤ length out1
    moves_room = laying_room _ _ _ _ _ _ laying_1 of_moves (count_bytes ++ of_checks) refl

    module _ (out2 : List ℕ) (at2 : ℕ) (l2 : (at2 ≡ at1 + length of_moves) × (out2 ≡ over out1 at1 of_moves)) where
      laying_2 : Laying out 0 (record_of (parts_of b journal checks)) out2 at2 (count_bytes ++ of_checks)
      laying_2 = laying_more _ _ _ _ _ _ laying_1 of_moves (count_bytes ++ of_checks) out2 at2 refl l2.0 l2.1

      pub count_room : at2 + 3 ≤ length out2
      count_room = laying_room _ _ _ _ _ _ laying_2 count_bytes of_checks refl

      module _ (out3 : List ℕ) (at3 : ℕ) (l3 : (at3 ≡ at2 + 3) × (out3 ≡ over out2 at2 count_bytes)) where
        laying_3 : Laying out 0 (record_of (parts_of b journal checks)) out3 at3 of_checks
        laying_3 = laying_more _ _ _ _ _ _ laying_2 count_bytes of_checks out3 at3 refl l3.0 l3.1

        pub checks_room : at3 + length of_checks ≤ length out3
        checks_room = laying_3.fits

        pub record_laid : (out4 : List ℕ) → out4 ≡ over out3 at3 of_checks → out4 ≡ over out 0 (record_of (parts_of b journal checks))
        record_laid out4 o4 = o4 ∙ laying_3.whole
