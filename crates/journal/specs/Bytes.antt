-- Bytes in lent memory: a part of it, bytes laid over it, and numbers of two and three bytes, low first.
-- Assumes nothing.
use Rattle.std.specs.Prelude.{ℕ, ◌+◌, ◌*◌, ◌/◌, ◌%◌, List, ◌++◌, length, take, drop}

-- the n bytes from `start` on
unfoldable pub part : List ℕ → ℕ → ℕ → List ℕ
part l start n = take n (drop start l)

-- the memory with the bytes laid over it from `start` on; all else as it was
unfoldable pub over : List ℕ → ℕ → List ℕ → List ℕ
over l start bytes = take start l ++ bytes ++ drop (start + length bytes) l

-- the low, the second and the third byte of a number
unfoldable pub low : ℕ → ℕ
low n = n % 256

unfoldable pub second : ℕ → ℕ
second n = n / 256 % 256

unfoldable pub third : ℕ → ℕ
third n = n / 65536 % 256

-- two bytes, low first, as a number
unfoldable pub two : ℕ → ℕ → ℕ
two a b = a + 256 * b

-- three bytes, low first, as a number
unfoldable pub three : ℕ → ℕ → ℕ → ℕ
three a b c = a + 256 * b + 65536 * c
