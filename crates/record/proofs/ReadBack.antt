-- Reading back what was written: where the undone count and the checks' standing counts
-- fit two bytes, the bytes of a record's parts are well formed, and hold these parts.
-- Assumes nothing.
use Prim.Native.Nat.{ℕ, zero, suc, ◌≤◌, ◌<◌}
use mathlib.Core.Path.{◌≡◌, refl, ap, ◌∙◌}
use mathlib.Core.Bool.{true}
use mathlib.Core.List.{List, [], ◌∷◌, ◌++◌, map, append_assoc}
use native.Mathlib.Omega.{arith}
use lib.ListN.{length, length-append}
use Rattle.sudoku.specs.Tests.{pick}
use Rattle.sudoku.proofs.Walks.{pick_true}
use Rattle.puzzle.specs.declared.Given.{Given as Setters}
use Rattle.puzzle.specs.Refusals.{accepted}
use Rattle.journal.specs.declared.Move.{Move}
use Rattle.journal.specs.declared.Move.TheVariants.{Place, Erase, WriteMark, StrikeMark}
use Rattle.journal.proofs.Memory.{two_bytes}
use Rattle.record.specs.declared.Item.{Item}
use Rattle.record.specs.declared.Item.TheVariants.{Given, Played, Undone, Check}
use Rattle.journal.specs.declared.Asked.{Asked}
use Rattle.record.specs.Items.{Parts, encode, encode_all, given_item, check_item, items_of, record_of}
use Rattle.record.specs.Scan.{asked, Items, ended, then, take_item, by_kind, body2, body3, body5, go_on, items_in, items_of_bytes, reached, may_stand, scan, malformed, add, no_parts, parts_in, parts_of_bytes}
use Rattle.sudoku.proofs.Each.{Each, each_append, each_all, each_map}

-- ---- what fits two bytes

-- an item's number fits its two bytes
unfoldable pub Fits : Item → Type 0
Fits (Given g) = Unit
Fits (Played m) = Unit
Fits (Undone n) = n < 65536
Fits (Check c) = c.standing < 65536

abbrev pub CheckFits : Asked → Type 0
CheckFits c = c.standing < 65536

-- ---- the items, read

-- a list of items, read to the end of the bytes
unfoldable pub stream : List Item → Items
stream [] = ended
stream (i ∷ is) = then i (stream is)

-- the item in front of some bytes
pub take_first : (fuel : ℕ) (i : Item) (bytes : List ℕ) → Fits i → items_in (suc fuel) (encode i ++ bytes) ≡ then i (items_in fuel bytes)
unfolding Fits encode items_in take_item by_kind body2 body3 body5 go_on pick
take_first fuel (Given g) bytes h = refl
take_first fuel (Played (Place row column digit)) bytes h = refl
take_first fuel (Played (Erase row column)) bytes h = refl
take_first fuel (Played (WriteMark row column digit)) bytes h = refl
take_first fuel (Played (StrikeMark row column digit)) bytes h = refl
take_first fuel (Undone n) bytes h = ap (λ (k : ℕ). then (Undone k) (items_in fuel bytes)) (two_bytes n h)
take_first fuel (Check c) bytes h =
    ap (λ (k : ℕ). then (Check (asked k c.row c.column c.digit)) (items_in fuel bytes)) (two_bytes c.standing h)

-- with fuel for each of them
pub items_read : (fuel : ℕ) (is : List Item) → Each Fits is → length is ≤ fuel → items_in fuel (encode_all is) ≡ stream is
unfolding Each encode_all stream items_in
items_read zero [] h u = refl
items_read (suc fuel) [] h u = refl
items_read zero (i ∷ is) h u = absurd (omega arith)
items_read (suc fuel) (i ∷ is) h u =
    take_first fuel i (encode_all is) h.0 ∙ ap (then i) (items_read fuel is h.1 (omega arith))

-- no item is without bytes
pub encode_some : (i : Item) → 1 ≤ length (encode i)
unfolding encode
encode_some (Given g) = omega arith
encode_some (Played (Place row column digit)) = omega arith
encode_some (Played (Erase row column)) = omega arith
encode_some (Played (WriteMark row column digit)) = omega arith
encode_some (Played (StrikeMark row column digit)) = omega arith
encode_some (Undone n) = omega arith
encode_some (Check c) = omega arith

pub items_le_bytes : (is : List Item) → length is ≤ length (encode_all is)
unfolding encode_all
items_le_bytes [] = omega arith
items_le_bytes (i ∷ is) = omega (arith, encode_some i, items_le_bytes is, length-append (encode i) (encode_all is))

pub items_back : (is : List Item) → Each Fits is → items_of_bytes (encode_all is) ≡ stream is
unfolding items_of_bytes
items_back is h = items_read (length (encode_all is)) is h (items_le_bytes is)

-- ---- their order

checks_stand : (n : ℕ) (cs : List Asked) → scan 2 n (stream (map check_item cs)) ≡ accepted
unfolding stream check_item scan may_stand reached pick
checks_stand n [] = refl
checks_stand n (c ∷ cs) = checks_stand (suc n) cs

-- in a phase where moves and the undone count may stand
moves_stand : (phase n : ℕ) (ms : List Move) (u : ℕ) (cs : List Asked) → ((m : Move) → may_stand phase (Played m) ≡ true)
    → may_stand phase (Undone u) ≡ true → scan phase n (stream (map Played ms ++ Undone u ∷ map check_item cs)) ≡ accepted
unfolding stream scan may_stand reached
moves_stand phase n [] u cs move undone = pick_true _ _ _ undone ∙ checks_stand (suc n) cs
moves_stand phase n (m ∷ ms) u cs move undone = pick_true _ _ _ (move m) ∙ moves_stand 1 (suc n) ms u cs (λ k. refl) refl

givens_stand : (n : ℕ) (gs : List Setters) (ms : List Move) (u : ℕ) (cs : List Asked)
    → scan 0 n (stream (map given_item gs ++ (map Played ms ++ Undone u ∷ map check_item cs))) ≡ accepted
unfolding stream given_item scan may_stand reached pick
givens_stand n [] ms u cs = moves_stand 0 n ms u cs (λ m. refl) refl
givens_stand n (g ∷ gs) ms u cs = givens_stand (suc n) gs ms u cs

-- ---- their parts

checks_back : (cs : List Asked)
    → parts_in (stream (map check_item cs)) ≡ record { givens = []; moves = []; undone = 0; checks = cs }
unfolding stream check_item parts_in add no_parts
checks_back [] = refl
checks_back (c ∷ cs) = ap (λ (p : Parts). add (check_item c) p) (checks_back cs)

moves_back : (ms : List Move) (u : ℕ) (cs : List Asked)
    → parts_in (stream (map Played ms ++ Undone u ∷ map check_item cs)) ≡ record { givens = []; moves = ms; undone = u; checks = cs }
unfolding stream parts_in add
moves_back [] u cs = ap (λ (p : Parts). add (Undone u) p) (checks_back cs)
moves_back (m ∷ ms) u cs = ap (λ (p : Parts). add (Played m) p) (moves_back ms u cs)

givens_back : (gs : List Setters) (ms : List Move) (u : ℕ) (cs : List Asked)
    → parts_in (stream (map given_item gs ++ (map Played ms ++ Undone u ∷ map check_item cs)))
    ≡ record { givens = gs; moves = ms; undone = u; checks = cs }
unfolding stream given_item parts_in add
givens_back [] ms u cs = moves_back ms u cs
givens_back (g ∷ gs) ms u cs = ap (λ (p : Parts). add (given_item g) p) (givens_back gs ms u cs)

-- ---- a record's bytes

module _ (p : Parts) where
  pub items_grouped : items_of p ≡ map given_item p.givens ++ (map Played p.moves ++ Undone p.undone ∷ map check_item p.checks)
  unfolding items_of
  items_grouped = append_assoc (map given_item p.givens) (map Played p.moves) (Undone p.undone ∷ map check_item p.checks)

  module _ (undone : p.undone < 65536) (checks : Each CheckFits p.checks) where
    items_fit : Each Fits (items_of p)
    unfolding Each Fits items_of given_item check_item
    items_fit =
        each_append Fits (map given_item p.givens ++ map Played p.moves) (Undone p.undone ∷ map check_item p.checks)
        (each_append Fits (map given_item p.givens) (map Played p.moves)
        (each_map Fits given_item p.givens (each_all (λ g. Fits (given_item g)) (λ g. tt) p.givens))
        (each_map Fits Played p.moves (each_all (λ m. Fits (Played m)) (λ m. tt) p.moves)))
        (undone, each_map Fits check_item p.checks checks)

    pub record_items : items_of_bytes (record_of p) ≡ stream (items_of p)
    unfolding record_of
    record_items = items_back (items_of p) items_fit

    scanned : (n : ℕ) → scan 0 n (items_of_bytes (record_of p)) ≡ accepted
    scanned n =
        ap (λ (s : Items). scan 0 n s) (record_items ∙ ap stream items_grouped)
        ∙ givens_stand n p.givens p.moves p.undone p.checks

    -- it is well formed
    pub record_formed : malformed (record_of p) ≡ accepted
    unfolding malformed
    record_formed = scanned _

    -- and holds the parts that it was made of
    pub record_parts : parts_of_bytes (record_of p) ≡ p
    unfolding parts_of_bytes
    record_parts =
        ap parts_in (record_items ∙ ap stream items_grouped) ∙ givens_back p.givens p.moves p.undone p.checks
