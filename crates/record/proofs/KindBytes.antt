-- Kind bytes: cases over the seven kinds, what each one decides, and
-- the item that it begins, read at an offset of a record's bytes.
-- Assumes nothing.
use Prim.Native.Nat.{ℕ, suc, ◌+◌, ◌-◌, ◌≤◌, ◌<◌}
use mathlib.Core.Path.{◌≡◌, refl, sym, ap, subst, ◌∙◌}
use Rattle.std.specs.Prelude.{Option, Some, None, MatchOption}
use mathlib.Core.Bool.{true, false}
use mathlib.Core.List.{List, [], ◌∷◌}
use native.Mathlib.Nat.{add-zero}
use native.Mathlib.Omega.{arith}
use borrow.Author.Tests.{eqb-true}
use lib.Dec.{eqb}
use lib.ListN.{length, drop, get_or, length-drop, drop_of_length-le}
use lib.Seq.{drop-cons, get_or-drop}
use Rattle.sudoku.specs.Tests.{pick}
use Rattle.sudoku.proofs.Walks.{by_test, pick_false}
use Rattle.puzzle.specs.Givens.{given}
use Rattle.journal.specs.declared.Move.TheVariants.{Place, Erase, WriteMark, StrikeMark}
use Rattle.journal.specs.Bytes.{two}
use Rattle.journal.specs.Slots.{move_of}
use Rattle.record.specs.declared.Group.{Group}
use Rattle.record.specs.declared.Group.TheVariants.{Givens, Moves, Count, Checks}
use Rattle.record.specs.declared.Item.{Item}
use Rattle.record.specs.declared.Item.TheVariants.{Given, Played, Undone, Check}
use Rattle.record.specs.declared.Shape.{Shape}
use Rattle.record.specs.Items.{encode, check_item}
use Rattle.record.specs.Scan.{asked, broken, take_item, by_kind, body2, body3, body5}
use Rattle.record.specs.Code.Counting.{shape_of, taken, read, read_of, move_at, asked_from, item_of}

-- ---- cases over the kinds

-- a byte that is no kind
pub record Other (k : ℕ) : Type 0 where
  one : eqb k 1 ≡ false
  two : eqb k 2 ≡ false
  three : eqb k 3 ≡ false
  four : eqb k 4 ≡ false
  five : eqb k 5 ≡ false
  six : eqb k 6 ≡ false
  seven : eqb k 7 ≡ false

pub kinds : (P : ℕ → Type 0) → P 1 → P 2 → P 3 → P 4 → P 5 → P 6 → P 7 → ((k : ℕ) → Other k → P k) → (k : ℕ) → P k
kinds P p1 p2 p3 p4 p5 p6 p7 q k =
    by_test (eqb k 1) (here 1 p1)
    (λ n1.
    by_test (eqb k 2) (here 2 p2)
    (λ n2.
    by_test (eqb k 3) (here 3 p3)
    (λ n3.
    by_test (eqb k 4) (here 4 p4)
    (λ n4.
    by_test (eqb k 5) (here 5 p5)
    (λ n5.
    by_test (eqb k 6) (here 6 p6)
    (λ n6.
    by_test (eqb k 7) (here 7 p7)
    (λ n7. q k (record { one = n1; two = n2; three = n3; four = n4; five = n5; six = n6; seven = n7 }))))))))
  where
    here : (i : ℕ) → P i → eqb k i ≡ true → P k
    here i p t = subst P (sym (eqb-true k i t)) p

pub other_kind : {A : Type 0} (k : ℕ) (a1 a2 a3 a4 a5 a6 a7 other : A) → Other k → by_kind k a1 a2 a3 a4 a5 a6 a7 other ≡ other
unfolding by_kind
other_kind k a1 a2 a3 a4 a5 a6 a7 other o =
    pick_false _ _ _ o.one
    ∙ pick_false _ _ _ o.two
    ∙ pick_false _ _ _ o.three
    ∙ pick_false _ _ _ o.four
    ∙ pick_false _ _ _ o.five
    ∙ pick_false _ _ _ o.six
    ∙ pick_false _ _ _ o.seven

-- ---- an item that is cut short

short2 : (f : ℕ → ℕ → Item) (l : List ℕ) → length l < 2 → body2 f l ≡ broken
unfolding body2
short2 f [] h = refl
short2 f (a ∷ []) h = refl
short2 f (a ∷ b ∷ l) h = absurd (omega arith)

short3 : (f : ℕ → ℕ → ℕ → Item) (l : List ℕ) → length l < 3 → body3 f l ≡ broken
unfolding body3
short3 f [] h = refl
short3 f (a ∷ []) h = refl
short3 f (a ∷ b ∷ []) h = refl
short3 f (a ∷ b ∷ c ∷ l) h = absurd (omega arith)

short5 : (f : ℕ → ℕ → ℕ → ℕ → ℕ → Item) (l : List ℕ) → length l < 5 → body5 f l ≡ broken
unfolding body5
short5 f [] h = refl
short5 f (a ∷ []) h = refl
short5 f (a ∷ b ∷ []) h = refl
short5 f (a ∷ b ∷ c ∷ []) h = refl
short5 f (a ∷ b ∷ c ∷ d ∷ []) h = refl
short5 f (a ∷ b ∷ c ∷ d ∷ e ∷ l) h = absurd (omega arith)

-- ---- a whole item

-- one that starts at `at`, behind its kind byte and body
module _ (at : ℕ) where
  whole2 : (f : ℕ → ℕ → Item) → ((a b : ℕ) → length (encode (f a b)) ≡ 3) → (l : List ℕ) → 2 ≤ length l
      → read_of at (body2 f l) ≡ Some (read (f (get_or l 0 0) (get_or l 1 0)) (at + 1 + 2))
  unfolding body2 read_of
  whole2 f n [] h = absurd (omega arith)
  whole2 f n (a ∷ []) h = absurd (omega arith)
  whole2 f n (a ∷ b ∷ l) h =
      ap (λ (k : ℕ). Some (read (f a b) k)) {x = at + length (encode (f a b))} {y = at + 1 + 2} (omega (arith, n a b))

  whole3 : (f : ℕ → ℕ → ℕ → Item) → ((a b c : ℕ) → length (encode (f a b c)) ≡ 4) → (l : List ℕ) → 3 ≤ length l
      → read_of at (body3 f l) ≡ Some (read (f (get_or l 0 0) (get_or l 1 0) (get_or l 2 0)) (at + 1 + 3))
  unfolding body3 read_of
  whole3 f n [] h = absurd (omega arith)
  whole3 f n (a ∷ []) h = absurd (omega arith)
  whole3 f n (a ∷ b ∷ []) h = absurd (omega arith)
  whole3 f n (a ∷ b ∷ c ∷ l) h =
      ap (λ (k : ℕ). Some (read (f a b c) k)) {x = at + length (encode (f a b c))} {y = at + 1 + 3} (omega (arith, n a b c))

  whole5 : (f : ℕ → ℕ → ℕ → ℕ → ℕ → Item) → ((a b c d e : ℕ) → length (encode (f a b c d e)) ≡ 6) → (l : List ℕ) → 5 ≤ length l
      → read_of at (body5 f l) ≡ Some (read (f (get_or l 0 0) (get_or l 1 0) (get_or l 2 0) (get_or l 3 0) (get_or l 4 0)) (at + 1 + 5))
  unfolding body5 read_of
  whole5 f n [] h = absurd (omega arith)
  whole5 f n (a ∷ []) h = absurd (omega arith)
  whole5 f n (a ∷ b ∷ []) h = absurd (omega arith)
  whole5 f n (a ∷ b ∷ c ∷ []) h = absurd (omega arith)
  whole5 f n (a ∷ b ∷ c ∷ d ∷ []) h = absurd (omega arith)
  whole5 f n (a ∷ b ∷ c ∷ d ∷ g ∷ l) h =
      ap (λ (k : ℕ). Some (read (f a b c d g) k)) {x = at + length (encode (f a b c d g))} {y = at + 1 + 5} (omega (arith, n a b c d g))

  -- what a kind byte with the bytes l behind it begins: no item, one that is cut short, or a whole one
  abbrev Begins : ℕ → List ℕ → Option Shape → Type 0
  Begins kind l o =
      MatchOption o (take_item kind l ≡ broken)
      (λ s.
      (length l < s.body → take_item kind l ≡ broken)
      × (s.body ≤ length l → read_of at (take_item kind l) ≡ Some (read (item_of (kind ∷ l) 0 s.group) (at + 1 + s.body))))

  begins : (kind : ℕ) (l : List ℕ) → Begins kind l (shape_of kind)
  unfolding shape_of take_item by_kind pick item_of move_at move_of asked_from check_item encode read_of
  begins =
      kinds (λ kind. (l : List ℕ) → Begins kind l (shape_of kind))
      (λ l. (short3 _ l, whole3 (λ row column digit. Given (given row column digit)) (λ a b c. refl) l))
      (λ l. (short3 _ l, whole3 (λ row column digit. Played (Place row column digit)) (λ a b c. refl) l))
      (λ l. (short2 _ l, whole2 (λ row column. Played (Erase row column)) (λ a b. refl) l))
      (λ l. (short3 _ l, whole3 (λ row column digit. Played (WriteMark row column digit)) (λ a b c. refl) l))
      (λ l. (short3 _ l, whole3 (λ row column digit. Played (StrikeMark row column digit)) (λ a b c. refl) l))
      (λ l. (short2 _ l, whole2 (λ a b. Undone (two a b)) (λ a b. refl) l))
      (λ l. (short5 _ l, whole5 (λ a b row column digit. Check (asked (two a b) row column digit)) (λ a b c d g. refl) l))
      (λ k o l. subst (Begins k l) (sym (other_kind k _ _ _ _ _ _ _ _ o)) (other_kind k _ _ _ _ _ _ _ _ o))

-- what stands in the bytes from an offset on
pub move_shift : (bytes : List ℕ) (at : ℕ) → move_at (drop at bytes) 0 ≡ move_at bytes at
unfolding move_at
move_shift bytes at =
    λ j.
    move_of
    (record {
      kind = (get_or-drop at bytes 0 0 ∙ ap (λ (i : ℕ). get_or bytes i 0) (add-zero at)) j;
      row = get_or-drop at bytes 1 0 j;
      column = get_or-drop at bytes 2 0 j;
      digit = get_or-drop at bytes 3 0 j;
      before = 0;
      struck = 0;
    })

pub ask_shift : (bytes : List ℕ) (at : ℕ) → asked_from (drop at bytes) 0 ≡ asked_from bytes at
unfolding asked_from
ask_shift bytes at =
    λ j.
    record {
      standing = two (get_or-drop at bytes 1 0 j) (get_or-drop at bytes 2 0 j);
      row = get_or-drop at bytes 3 0 j;
      column = get_or-drop at bytes 4 0 j;
      digit = get_or-drop at bytes 5 0 j;
    }

-- the item of a group in the bytes from an offset on
item_shift : (bytes : List ℕ) (at : ℕ) (group : Group) → item_of (drop at bytes) 0 group ≡ item_of bytes at group
unfolding item_of move_at
item_shift bytes at Givens = λ j. Given (given (get_or-drop at bytes 1 0 j) (get_or-drop at bytes 2 0 j) (get_or-drop at bytes 3 0 j))
item_shift bytes at Moves = ap Played (move_shift bytes at)
item_shift bytes at Count = λ j. Undone (two (get_or-drop at bytes 1 0 j) (get_or-drop at bytes 2 0 j))
item_shift bytes at Checks = ap check_item (ask_shift bytes at)

-- ---- what stands at an offset

pub read_past : (bytes : List ℕ) (at : ℕ) → length bytes ≤ at → read_of at (taken (drop at bytes)) ≡ None
unfolding taken read_of
read_past bytes at h = ap (λ (l : List ℕ). read_of at (taken l)) (drop_of_length-le bytes h)

module _ (bytes : List ℕ) (at : ℕ) (inside : at < length bytes) where
  behind_kind : length (drop (suc at) bytes) ≡ length bytes - suc at
  behind_kind = length-drop (suc at) bytes

  begun : (o : Option Shape) → o ≡ shape_of (get_or bytes at 0) → Begins at (get_or bytes at 0) (drop (suc at) bytes) o
  begun o e = subst (Begins at (get_or bytes at 0) (drop (suc at) bytes)) (sym e) (begins at (get_or bytes at 0) (drop (suc at) bytes))

  from_kind : read_of at (taken (drop at bytes)) ≡ read_of at (take_item (get_or bytes at 0) (drop (suc at) bytes))
  unfolding taken
  from_kind = ap (λ (l : List ℕ). read_of at (taken l)) (drop-cons bytes at 0 inside)

  pub read_none : None ≡ shape_of (get_or bytes at 0) → read_of at (taken (drop at bytes)) ≡ None
  unfolding read_of
  read_none e = from_kind ∙ ap (read_of at) (begun None e)

  module _ (s : Shape) (e : Some s ≡ shape_of (get_or bytes at 0)) where
    pub read_short : length bytes - at ≤ s.body → read_of at (taken (drop at bytes)) ≡ None
    unfolding read_of
    read_short h = from_kind ∙ ap (read_of at) ((begun (Some s) e).0 (omega (arith, behind_kind)))

    pub read_whole : s.body < length bytes - at → Some (read (item_of bytes at s.group) (at + 1 + s.body)) ≡ read_of at (taken (drop at bytes))
    read_whole h =
        sym
        (from_kind
        ∙ (begun (Some s) e).1 (omega (arith, behind_kind))
        ∙ ap (λ (i : Item). Some (read i (at + 1 + s.body)))
        (ap (λ (l : List ℕ). item_of l 0 s.group) (sym (drop-cons bytes at 0 inside)) ∙ item_shift bytes at s.group))
