-- The laws of the encoding: bytes that encode calls alone run them, and the bytes of every list of calls encode it.
-- Assumes nothing.
use Prim.Native.Nat.{ℕ, zero, suc, ◌+◌, ◌*◌, ◌/◌, ◌≤◌}
use mathlib.Core.Path.{◌≡◌, refl, sym, ap, ◌∙◌}
use mathlib.Core.List.{List, [], ◌∷◌, ◌++◌, map}
use native.Mathlib.Omega.{arith}
use lib.ListN.{length, get_or, length-map}
use borrow.Author.Tests.{ne_eqb}
use Rattle.std.specs.Prelude.{Option, Some, None}
use Rattle.sudoku.specs.Tests.{pick, listed}
use Rattle.sudoku.proofs.Listed.{length_listed}
use Rattle.sudoku.proofs.Walks.{pick_false}
use Rattle.journal.specs.Bytes.{over}
use Rattle.play.specs.declared.Play.TheVariants.{Place, Erase, Pencil}
use Rattle.calls.specs.declared.Call.{Call}
use Rattle.calls.specs.declared.Call.TheVariants.{Make, Undo, Redo, Check}
use Rattle.calls.specs.Session.{Session, call_of, after, answers}
use Rattle.calls.specs.Encoded.{call_bytes, call_place, call_erase, call_pencil, call_undo, call_redo, call_check, decode, decode_other, decode_at, decoded, encode, encoded, groups, run_one, left_by, said_to, answers_bytes, ran, run_from, run_of}

-- ---- groups that are all calls

left_calls : (s : Session) (cs : List Call) → left_by s (map Some cs) ≡ after s cs
unfolding left_by run_one after
left_calls s [] = refl
left_calls s (c ∷ cs) = left_calls (call_of s c).left cs

said_calls : (s : Session) (cs : List Call) → said_to s (map Some cs) ≡ answers s cs
unfolding said_to run_one answers
said_calls s [] = refl
said_calls s (c ∷ cs) = λ i. (call_of s c).said ∷ said_calls (call_of s c).left cs i

module _ (s : Session) (bytes room : List ℕ) (cs : List Call) (p : decoded bytes ≡ map Some cs) (h : call_bytes * length cs ≤ length room) where
  as_many : length bytes / call_bytes ≡ length cs
  unfolding decoded
  as_many =
      sym (length_listed (decode_at bytes) (length bytes / call_bytes) 0) ∙ ap (λ (l : List (Option Call)). length l) p ∙ length-map cs Some

  all_groups : groups (length bytes) (length room) ≡ length bytes / call_bytes
  unfolding groups
  all_groups = omega (arith, as_many)

  pub run_calls : run_of s bytes room ≡ ran (after s cs) (over room 0 (answers_bytes (answers s cs)))
  unfolding run_of run_from decoded
  run_calls =
      ap (λ (n : ℕ). run_from bytes s room n 0) all_groups
      ∙ ap (λ (ds : List (Option Call)). ran (left_by s ds) (over room 0 (answers_bytes (said_to s ds)))) p
      ∙ (λ i. ran (left_calls s cs i) (over room 0 (answers_bytes (said_calls s cs i))))

-- ---- the bytes of a list of calls

-- a group stands four bytes later behind another group
module _ (a b c d : ℕ) (l : List ℕ) where
  byte_later : (m n : ℕ) → m ≡ call_bytes + n → get_or (a ∷ b ∷ c ∷ d ∷ l) m 0 ≡ get_or l n 0
  byte_later m n e = ap (λ (k : ℕ). get_or (a ∷ b ∷ c ∷ d ∷ l) k 0) {x = m} {y = suc (suc (suc (suc n)))} (omega arith)

  decode_later : (i : ℕ) → decode_at (a ∷ b ∷ c ∷ d ∷ l) (suc i) ≡ decode_at l i
  unfolding decode_at
  decode_later i =
      λ j.
      decode (byte_later (call_bytes * suc i) (call_bytes * i) (omega arith) j) (byte_later (call_bytes * suc i + 1) (call_bytes * i + 1) (omega arith) j)
      (byte_later (call_bytes * suc i + 2) (call_bytes * i + 2) (omega arith) j) (byte_later (call_bytes * suc i + 3) (call_bytes * i + 3) (omega arith) j)

  listed_later : (n i : ℕ) → listed (decode_at (a ∷ b ∷ c ∷ d ∷ l)) n (suc i) ≡ listed (decode_at l) n i
  unfolding listed
  listed_later zero i = refl
  listed_later (suc n) i = λ j. decode_later i j ∷ listed_later n (suc i) j

-- every call is four bytes
record Four (c : Call) : Type 0 where
  one : ℕ
  two : ℕ
  three : ℕ
  four : ℕ
  is : encode c ≡ one ∷ two ∷ three ∷ four ∷ []

four_bytes : (c : Call) → Four c
unfolding encode
four_bytes (Make (Place row column digit)) = record { one = call_place; two = row; three = column; four = digit; is = refl }
four_bytes (Make (Erase row column)) = record { one = call_erase; two = row; three = column; four = 0; is = refl }
four_bytes (Make (Pencil row column digit)) = record { one = call_pencil; two = row; three = column; four = digit; is = refl }
four_bytes Undo = record { one = call_undo; two = 0; three = 0; four = 0; is = refl }
four_bytes Redo = record { one = call_redo; two = 0; three = 0; four = 0; is = refl }
four_bytes (Check row column) = record { one = call_check; two = row; three = column; four = 0; is = refl }

encode_length : (cs : List Call) → length (encoded cs) ≡ call_bytes * length cs
unfolding encoded
encode_length [] = refl
encode_length (c ∷ cs) = rw (four_bytes c).is (omega (arith, encode_length cs))

-- the first group is its call, and the others follow
first_call : (c : Call) (l : List ℕ) → decode_at (encode c ++ l) 0 ≡ Some c
unfolding decode_at decode decode_other encode pick
first_call (Make (Place row column digit)) l = refl
first_call (Make (Erase row column)) l = refl
first_call (Make (Pencil row column digit)) l = refl
first_call Undo l = refl
first_call Redo l = refl
first_call (Check row column) l = refl

other_calls : (c : Call) (l : List ℕ) (n : ℕ) → listed (decode_at (encode c ++ l)) n 1 ≡ listed (decode_at l) n 0
other_calls c l n = let b = four_bytes c in rw b.is (listed_later b.one b.two b.three b.four l n 0)

all_calls : (cs : List Call) → listed (decode_at (encoded cs)) (length cs) 0 ≡ map Some cs
unfolding listed encoded
all_calls [] = refl
all_calls (c ∷ cs) = λ i. first_call c (encoded cs) i ∷ (other_calls c (encoded cs) (length cs) ∙ all_calls cs) i

-- a first byte that is no call's encodes none
pub no_call_decoded : (kind row column digit : ℕ) → ((call : ℕ) → call_place ≤ call → call ≤ call_check → kind ≡ call → ⊥) → decode kind row column digit ≡ None
unfolding decode decode_other
no_call_decoded kind row column digit h =
    pick_false _ _ _ (ne_eqb kind call_place (h call_place (omega arith) (omega arith)))
    ∙ pick_false _ _ _ (ne_eqb kind call_erase (h call_erase (omega arith) (omega arith)))
    ∙ pick_false _ _ _ (ne_eqb kind call_pencil (h call_pencil (omega arith) (omega arith)))
    ∙ pick_false _ _ _ (ne_eqb kind call_undo (h call_undo (omega arith) (omega arith)))
    ∙ pick_false _ _ _ (ne_eqb kind call_redo (h call_redo (omega arith) (omega arith)))
    ∙ pick_false _ _ _ (ne_eqb kind call_check (h call_check (omega arith) (omega arith)))

pub decoded_encoded : (cs : List Call) → decoded (encoded cs) ≡ map Some cs
unfolding decoded
decoded_encoded cs =
    ap (λ (n : ℕ). listed (decode_at (encoded cs)) n 0) {x = length (encoded cs) / call_bytes} {y = length cs} (omega (arith, encode_length cs)) ∙ all_calls cs
