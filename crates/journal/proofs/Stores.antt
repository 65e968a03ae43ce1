-- Stores into lent memory, one byte after the other, are bytes laid over it; and what lies past its end reads as 0.
-- Assumes nothing.
use Prim.Native.Nat.{ℕ, suc, ◌+◌, ◌*◌, ◌/◌, ◌≤◌, ◌<◌}
use mathlib.Core.Path.{◌≡◌, refl, sym, ◌∙◌}
use mathlib.Core.List.{List, [], ◌∷◌}
use native.Mathlib.Omega.{arith}
use borrow.Author.Tests.{le-leb, lt-leb}
use borrow.Rule.Slice.PartMut.{put_mid}
use lib.ListN.{length, set, take}
use Rattle.std.proofs.lemmas.List.{drop-drop, append_assoc}
use Rattle.std.proofs.Math.Nat.{le-div_iff_mul-le, div-lt_iff_lt-mul}
use lib.Seq.{sets, sets-eq}
use Rattle.sudoku.proofs.Walks.{pick_true, pick_false}
use Rattle.journal.specs.Bytes.{over}
use Rattle.journal.specs.Code.Laid.{laid}

pub laid_over : (l : List ℕ) (i : ℕ) (bs : List ℕ) → i + length bs ≤ length l → laid l i bs ≡ over l i bs
unfolding laid
laid_over l i bs h = pick_true _ _ _ (le-leb (i + length bs) (length l) h)

pub laid_past : (l : List ℕ) (i : ℕ) (bs : List ℕ) → length l < i + length bs → laid l i bs ≡ l
unfolding laid
laid_past l i bs h = pick_false _ _ _ (lt-leb (i + length bs) (length l) h)

-- an entry of k bytes behind `index` others has room in n bytes, or has none
pub entry_fits : (k index n : ℕ) → 0 < k → index < n / k → k * index + k ≤ n
entry_fits k index n p h = let e = (le-div_iff_mul-le {k = k} {x = index + 1} {y = n} p).0 (omega arith) in grind (arith, e)

pub entry_past : (k index n : ℕ) → 0 < k → n / k ≤ index → n < k * index + k
entry_past k index n p h = let e = (div-lt_iff_lt-mul {k = k} {x = n} {y = index + 1} p).0 (omega arith) in grind (arith, e)

-- bytes copied over as many
pub copied : (l : List ℕ) (i k : ℕ) (bs : List ℕ) → k ≡ length bs → i + length bs ≤ length l → put_mid i k l bs ≡ laid l i bs
unfolding over
copied l i k bs e h = rw (laid_over l i bs h, e, drop-drop) (sym (append_assoc (take i l) bs _))

laid_sets : (l : List ℕ) (i : ℕ) (bs : List ℕ) → i + length bs ≤ length l → sets l i bs ≡ laid l i bs
unfolding over
laid_sets l i bs h = sets-eq bs l i h ∙ sym (laid_over l i bs h)

-- bytes stored at i + k, i + k + 1 and so on, as code with one store to a line leaves them
abbrev pub stores : List ℕ → ℕ → ℕ → List ℕ → List ℕ
stores l i k [] = l
stores l i k (b ∷ bs) = stores (set l (i + k) b) i (k + 1) bs

stores_sets : (l : List ℕ) (i k : ℕ) (bs : List ℕ) → stores l i k bs ≡ sets l (i + k) bs
stores_sets l i k [] = refl
stores_sets l i k (b ∷ bs) =
    let e : i + (k + 1) ≡ suc (i + k) = omega arith in
    stores_sets (set l (i + k) b) i (k + 1) bs ∙ rw e

-- a first byte stored at i and the others behind it
pub stored : (l : List ℕ) (i b : ℕ) (bs : List ℕ) → i + length (b ∷ bs) ≤ length l → stores (set l i b) i 1 bs ≡ laid l i (b ∷ bs)
stored l i b bs h =
    let e : i + 1 ≡ suc i = omega arith in
    stores_sets (set l i b) i 1 bs ∙ rw e (laid_sets l i (b ∷ bs) h)

-- one byte stored
pub one_laid : (l : List ℕ) (i b : ℕ) → i < length l → set l i b ≡ over l i (b ∷ [])
one_laid l i b h = stored l i b [] (omega arith) ∙ laid_over l i (b ∷ []) (omega arith)
