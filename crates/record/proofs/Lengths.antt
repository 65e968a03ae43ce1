-- How many bytes an item and a record have: a record within the limits is no longer than `record_bytes`.
-- Assumes nothing.
use Prim.Native.Nat.{ℕ, ◌+◌, ◌*◌, ◌≤◌}
use mathlib.Core.Path.{◌≡◌, refl, sym, ap, ◌∙◌}
use mathlib.Core.List.{List, [], ◌∷◌, ◌++◌, map, append_assoc}
use native.Mathlib.Omega.{arith}
use lib.ListN.{length, length-append}
use Rattle.puzzle.specs.declared.Given.{Given as Setters}
use Rattle.journal.specs.declared.Move.{Move}
use Rattle.journal.specs.declared.Move.TheVariants.{Place, Erase, WriteMark, StrikeMark}
use Rattle.journal.specs.Limits.{max_moves, max_checks, record_bytes, check_item_bytes, given_item_bytes, move_item_bytes, undone_item_bytes}
use Rattle.record.specs.declared.Item.{Item}
use Rattle.record.specs.declared.Item.TheVariants.{Played, Undone}
use Rattle.journal.specs.declared.Asked.{Asked}
use Rattle.record.specs.Items.{Parts, encode, encode_all, given_item, check_item, record_of}
use Rattle.record.proofs.ReadBack.{items_grouped}

-- ---- one item

-- an erase has three bytes, every other move four
unfoldable pub move_bytes : Move → ℕ
move_bytes (Place row column digit) = 4
move_bytes (Erase row column) = 3
move_bytes (WriteMark row column digit) = 4
move_bytes (StrikeMark row column digit) = 4

pub length_move : (m : Move) → length (encode (Played m)) ≡ move_bytes m
unfolding encode move_bytes
length_move (Place row column digit) = refl
length_move (Erase row column) = refl
length_move (WriteMark row column digit) = refl
length_move (StrikeMark row column digit) = refl

pub move_bytes_le : (m : Move) → move_bytes m ≤ 4
unfolding move_bytes
move_bytes_le (Place row column digit) = omega arith
move_bytes_le (Erase row column) = omega arith
move_bytes_le (WriteMark row column digit) = omega arith
move_bytes_le (StrikeMark row column digit) = omega arith

-- ---- items, one after the other

pub encode_join : (is js : List Item) → encode_all (is ++ js) ≡ encode_all is ++ encode_all js
unfolding encode_all
encode_join [] js = refl
encode_join (i ∷ is) js =
    ap (λ (l : List ℕ). encode i ++ l) (encode_join is js) ∙ sym (append_assoc (encode i) (encode_all is) (encode_all js))

pub length_givens : (gs : List Setters) → length (encode_all (map given_item gs)) ≡ given_item_bytes * length gs
unfolding encode_all given_item encode
length_givens [] = refl
length_givens (g ∷ gs) = omega (arith, length_givens gs)

unfoldable pub moves_bytes : List Move → ℕ
moves_bytes [] = 0
moves_bytes (m ∷ ms) = move_bytes m + moves_bytes ms

pub length_moves : (ms : List Move) → length (encode_all (map Played ms)) ≡ moves_bytes ms
unfolding encode_all moves_bytes
length_moves [] = refl
length_moves (m ∷ ms) = omega (arith, length-append (encode (Played m)) (encode_all (map Played ms)), length_move m, length_moves ms)

pub moves_bytes_le : (ms : List Move) → moves_bytes ms ≤ move_item_bytes * length ms
unfolding moves_bytes
moves_bytes_le [] = omega arith
moves_bytes_le (m ∷ ms) = omega (arith, move_bytes_le m, moves_bytes_le ms)

pub length_checks : (cs : List Asked) → length (encode_all (map check_item cs)) ≡ check_item_bytes * length cs
unfolding encode_all check_item encode
length_checks [] = refl
length_checks (c ∷ cs) = omega (arith, length_checks cs)

-- ---- a record

module _ (p : Parts) where
  -- its bytes, group by group
  pub record_joined : record_of p
      ≡ encode_all (map given_item p.givens)
      ++ (encode_all (map Played p.moves) ++ (encode (Undone p.undone) ++ encode_all (map check_item p.checks)))
  unfolding record_of encode_all
  record_joined =
      ap encode_all (items_grouped p)
      ∙ encode_join (map given_item p.givens) (map Played p.moves ++ Undone p.undone ∷ map check_item p.checks)
      ∙ ap (λ (l : List ℕ). encode_all (map given_item p.givens) ++ l)
      (encode_join (map Played p.moves) (Undone p.undone ∷ map check_item p.checks))

  pub record_length : length (record_of p) ≡ given_item_bytes * length p.givens + moves_bytes p.moves + undone_item_bytes + check_item_bytes * length p.checks
  unfolding encode
  record_length =
      omega (
        arith,
        ap length record_joined,
        length-append (encode_all (map given_item p.givens))
            (encode_all (map Played p.moves) ++ (encode (Undone p.undone) ++ encode_all (map check_item p.checks))),
        length-append (encode_all (map Played p.moves)) (encode (Undone p.undone) ++ encode_all (map check_item p.checks)),
        length_givens p.givens,
        length_moves p.moves,
        length_checks p.checks,
      )

  -- within the limits
  pub record_short : length p.givens ≤ 80 → length p.moves ≤ max_moves → length p.checks ≤ max_checks → length (record_of p) ≤ record_bytes
  record_short g m c = omega (arith, record_length, moves_bytes_le p.moves)
