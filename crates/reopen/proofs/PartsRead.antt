-- The moves and the checks of a record, read where they stand in its bytes: moves behind the givens, checks at the end.
-- Assumes nothing.
use Prim.Native.Nat.{ℕ, suc, ◌+◌, ◌-◌, ◌*◌, ◌≤◌, ◌<◌}
use mathlib.Core.Path.{◌≡◌, refl, sym, ap, ◌∙◌}
use mathlib.Core.List.{List, [], ◌∷◌, ◌++◌, map, append_assoc}
use native.Mathlib.Nat.{add-zero}
use native.Mathlib.Omega.{arith}
use lib.ListN.{length, drop, length-append}
use lib.Seq.{drop_at, drop-drop}
use Rattle.sudoku.specs.Tests.{pick, listed}
use Rattle.sudoku.proofs.Each.{Each}
use Rattle.journal.specs.Limits.{check_item_bytes, given_item_bytes}
use Rattle.journal.specs.declared.Move.{Move}
use Rattle.journal.specs.declared.Move.TheVariants.{Place, Erase, WriteMark, StrikeMark}
use Rattle.journal.specs.Slots.{move_of}
use Rattle.journal.proofs.Memory.{two_bytes}
use Rattle.journal.specs.declared.Asked.{Asked}
use Rattle.record.specs.declared.Item.TheVariants.{Played, Undone}
use Rattle.record.specs.Items.{Parts, encode, encode_all, given_item, check_item, record_of}
use Rattle.record.specs.Code.Counting.{move_at, asked_from}
use Rattle.reopen.specs.Code.Reopening.{moves_at, asks_at}
use Rattle.record.proofs.ReadBack.{CheckFits}
use Rattle.record.proofs.Lengths.{length_givens, length_checks, record_joined, record_length}
use Rattle.record.proofs.KindBytes.{move_shift, ask_shift}

-- ---- moves

move_read : (m : Move) (rest : List ℕ) → move_at (encode (Played m) ++ rest) 0 ≡ m
unfolding move_at move_of pick encode
move_read (Place row column digit) rest = refl
move_read (Erase row column) rest = refl
move_read (WriteMark row column digit) rest = refl
move_read (StrikeMark row column digit) rest = refl

moves_read : (bytes : List ℕ) (at : ℕ) (ms : List Move) (rest : List ℕ) → drop at bytes ≡ encode_all (map Played ms) ++ rest → moves_at bytes at (length ms) ≡ ms
unfolding moves_at encode_all
moves_read bytes at [] rest e = refl
moves_read bytes at (m ∷ ms) rest e = λ j. here j ∷ moves_read bytes (at + length (encode (Played (move_at bytes at)))) ms rest on j
  where
    split : drop at bytes ≡ encode (Played m) ++ (encode_all (map Played ms) ++ rest)
    split = e ∙ append_assoc (encode (Played m)) (encode_all (map Played ms)) rest

    here : move_at bytes at ≡ m
    here = sym (move_shift bytes at) ∙ ap (λ (l : List ℕ). move_at l 0) split ∙ move_read m _

    on : drop (at + length (encode (Played (move_at bytes at)))) bytes ≡ encode_all (map Played ms) ++ rest
    on =
        ap (λ (x : Move). drop (at + length (encode (Played x))) bytes) here
        ∙ sym (drop-drop (length (encode (Played m))) at bytes)
        ∙ ap (drop (length (encode (Played m)))) split
        ∙ drop_at (encode (Played m)) (encode_all (map Played ms) ++ rest) (length (encode (Played m))) refl

-- ---- checks

ask_read : (c : Asked) (rest : List ℕ) → c.standing < 65536 → asked_from (encode (check_item c) ++ rest) 0 ≡ c
unfolding asked_from encode check_item
ask_read c rest h = λ j. record { standing = two_bytes c.standing h j; row = c.row; column = c.column; digit = c.digit }

six : (c : Asked) → length (encode (check_item c)) ≡ 6
unfolding encode check_item
six c = refl

asks_read : (bytes : List ℕ) (start : ℕ) (cs : List Asked) (i : ℕ) → 1 ≤ i → Each CheckFits cs
    → drop (start + check_item_bytes * (i - 1)) bytes ≡ encode_all (map check_item cs)
    → listed (λ k. asked_from bytes (start + check_item_bytes * (k - 1))) (length cs) i ≡ cs
unfolding listed Each encode_all
asks_read bytes start [] i l h e = refl
asks_read bytes start (c ∷ cs) i l h e = λ j. here j ∷ asks_read bytes start cs (suc i) (omega arith) h.1 on j
  where
    here : asked_from bytes (start + check_item_bytes * (i - 1)) ≡ c
    here =
        sym (ask_shift bytes (start + check_item_bytes * (i - 1)))
        ∙ ap (λ (x : List ℕ). asked_from x 0) e
        ∙ ask_read c (encode_all (map check_item cs)) h.0

    next : start + check_item_bytes * (suc i - 1) ≡ start + check_item_bytes * (i - 1) + check_item_bytes
    next = omega arith

    on : drop (start + check_item_bytes * (suc i - 1)) bytes ≡ encode_all (map check_item cs)
    on =
        ap (λ (n : ℕ). drop n bytes) next
        ∙ sym (drop-drop check_item_bytes (start + check_item_bytes * (i - 1)) bytes)
        ∙ ap (drop check_item_bytes) e
        ∙ drop_at (encode (check_item c)) (encode_all (map check_item cs)) 6 (six c)

-- ---- of a record

module _ (p : Parts) (bytes : List ℕ) (e : record_of p ≡ bytes) where
  abbrev of_givens : List ℕ
  of_givens = encode_all (map given_item p.givens)

  abbrev of_moves : List ℕ
  of_moves = encode_all (map Played p.moves)

  abbrev of_checks : List ℕ
  of_checks = encode_all (map check_item p.checks)

  abbrev of_count : List ℕ
  of_count = encode (Undone p.undone)

  joined : bytes ≡ of_givens ++ (of_moves ++ (of_count ++ of_checks))
  joined = sym e ∙ record_joined p

  size : length bytes ≡ length (record_of p)
  size = ap length (sym e)

  pub givens_fit : given_item_bytes * length p.givens ≤ length bytes
  givens_fit = omega (arith, size, record_length p)

  pub checks_fit : check_item_bytes * length p.checks ≤ length bytes
  checks_fit = omega (arith, size, record_length p)

  pub moves_stand : moves_at bytes (given_item_bytes * length p.givens) (length p.moves) ≡ p.moves
  moves_stand =
      moves_read bytes (given_item_bytes * length p.givens) p.moves (of_count ++ of_checks)
      (ap (drop (given_item_bytes * length p.givens)) joined
      ∙ drop_at of_givens (of_moves ++ (of_count ++ of_checks)) (given_item_bytes * length p.givens) (length_givens p.givens))

  front : bytes ≡ (of_givens ++ (of_moves ++ of_count)) ++ of_checks
  front =
      joined
      ∙ ap (λ (l : List ℕ). of_givens ++ l) (sym (append_assoc of_moves of_count of_checks))
      ∙ sym (append_assoc of_givens (of_moves ++ of_count) of_checks)

  front_length : length (of_givens ++ (of_moves ++ of_count)) ≡ length bytes - check_item_bytes * length p.checks
  front_length =
      omega (arith, ap length front, length-append (of_givens ++ (of_moves ++ of_count)) of_checks, length_checks p.checks)

  pub asks_stand : Each CheckFits p.checks → asks_at bytes (length bytes - check_item_bytes * length p.checks) (length p.checks) ≡ p.checks
  unfolding asks_at
  asks_stand h =
      asks_read bytes (length bytes - check_item_bytes * length p.checks) p.checks 1 (omega arith) h
      (ap (λ (n : ℕ). drop n bytes) (add-zero (length bytes - check_item_bytes * length p.checks))
      ∙ ap (drop (length bytes - check_item_bytes * length p.checks)) front
      ∙ drop_at (of_givens ++ (of_moves ++ of_count)) of_checks (length bytes - check_item_bytes * length p.checks) front_length)
