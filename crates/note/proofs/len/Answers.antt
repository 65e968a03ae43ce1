-- `note::len` meets its contract: the ones of a word are counted bit by bit, and those of the mask are the marks.
-- Assumes nothing.
use Prim.Native.Nat.{ℕ, zero, suc, ◌+◌, ◌*◌, ◌/◌, ◌%◌, ◌^◌, ◌≤◌}
use mathlib.Core.Path.{◌≡◌, sym, ap, ◌∙◌}
use native.Mathlib.Nat.{div-div-eq-div-mul, zero-add, mod-one, pow-suc}
use native.Mathlib.Numerals.{add-one}
use native.Mathlib.Omega.{arith}
use lib.Bits.{bit_and, and_high}
use lib.Count.{ones, ones_step}
use lib.Pow.{mod-pow-add}
use Rattle.sudoku.specs.Tests.{count}
use Rattle.sudoku.proofs.Grid.{in_range_lem}
use Rattle.note.specs.Note.{contains, len_of}
use Rattle.note.proofs.Note.{len_count, bit_of}
use Rattle.note.proofs.len.Goals as goal

-- the lowest one of k + 1 bits, and the others
ones_more : (m k : ℕ) → ones (m % 2 ^ suc k) ≡ m % 2 + ones (m / 2 % 2 ^ k)
ones_more m k =
    let split : m % 2 ^ suc k ≡ (m / 2 % 2 ^ k) * 2 + m % 2 = rw add-one at (mod-pow-add m k 1) in
    let low : m % 2 ^ suc k % 2 ≡ m % 2 = omega arith in
    let high : m % 2 ^ suc k / 2 ≡ m / 2 % 2 ^ k = omega arith in
    rw (ones_step, low, high)

-- the ones of the k bits from i on
ones_marks : (n k i : ℕ) → 1 ≤ i → i + k ≤ 10 → ones (n / 2 ^ i % 2 ^ k) ≡ count (contains n) k i
unfolding count ones
ones_marks n zero i l u = rw mod-one
ones_marks n (suc k) i l u =
    rw (ones_more, div-div-eq-div-mul, ← pow-suc, ones_marks n k (suc i) (omega arith) (omega arith), bit_of n i (in_range_lem i l (omega arith)))

-- a bit 0 below counts for nothing
doubled : (m : ℕ) → ones (m * 2) ≡ ones m
doubled m =
    let low : m * 2 % 2 ≡ 0 = omega arith in
    let high : m * 2 / 2 ≡ m = omega arith in
    ones_step (m * 2) ∙ rw (low, high, zero-add)

marked : (n : ℕ) → ones (bit_and n 1022) ≡ len_of n
marked n =
    ap ones (and_high n 9 1)
    ∙ doubled (n / 2 ^ 1 % 2 ^ 9)
    ∙ ones_marks n 9 1 (omega arith) (omega arith)
    ∙ sym (len_count n)

pub returns : goal.returns
returns c = marked c.args.note
