-- A line of the input: which bytes it takes, in order and none lost, and what is kept of them. Which bytes the input
-- brings no contract can say: a contract says that there are such bytes.
-- Assumes nothing.
use Rattle.std.specs.Prelude.{ℕ, ◌+◌, ◌≤◌, ◌≡◌, Bool, true, not, List, [], ◌∷◌, ◌++◌, Option, Some, None, MatchOption, ltb, leb, eqb, length, get_or, set, take, drop, replicate}
use Rattle.sudoku.specs.Tests.{pick, both}
use Rattle.terminal.specs.declared.input.Input.{Input}
use Rattle.terminal.specs.declared.input.Line.{Line}

-- ---- bytes

-- an input of which nothing was read
unfoldable pub no_input : Input
no_input = record { buffer = replicate 4096 0; at = 0; end = 0 }

-- what of the input was read and is not used
unfoldable pub unused : Input → List ℕ
unused i = drop i.at (take i.end i.buffer)

-- no more was read than the buffer holds
abbrev pub Within : Input → Type 0
Within i = i.end ≤ length i.buffer

-- the next byte of those that were read, and what is left behind it
unfoldable pub taken_at : Input → Option ℕ
taken_at i = pick (ltb i.at i.end) (Some (get_or i.buffer i.at 0)) None

unfoldable pub behind : Input → Input
behind i = pick (ltb i.at i.end) (record i { at = i.at + 1 }) i

-- a byte that came; none where the input ended
unfoldable pub came : Option ℕ → List ℕ
came None = []
came (Some byte) = byte ∷ []

-- a byte was taken from what was read, or from what was read anew once all that was used: none is lost
pub record ByteTaken (before after : Input) (byte : Option ℕ) : Type 0 where
  pub anew : List ℕ
  pub all : Within before → unused before ++ anew ≡ came byte ++ unused after
  pub within : Within before → Within after

-- ---- lines

-- the most bytes of a line that is taken
abbrev pub line_bytes : ℕ
line_bytes = 256

abbrev pub kept : List ℕ → ℕ → Line
kept memory length = record { memory = memory; length = length }

unfoldable pub empty_line : Line
empty_line = kept (replicate 256 0) 0

-- a byte more at the end of a line; what finds no room is dropped
unfoldable pub with_byte : Line → ℕ → Line
with_byte l byte =
    pick (ltb l.length line_bytes) (kept (set l.memory l.length byte) (l.length + 1)) (kept l.memory (line_bytes + 1))

unfoldable pub with_bytes : Line → List ℕ → Line
with_bytes l [] = l
with_bytes l (byte ∷ bytes) = with_bytes (with_byte l byte) bytes

-- the bytes of a line, in order; none where one found no room
unfoldable pub line_text : Line → Option (List ℕ)
line_text l = pick (leb l.length line_bytes) (Some (take l.length l.memory)) None

-- none of the bytes is a line's end
unfoldable pub is_line : List ℕ → Bool
is_line [] = true
is_line (byte ∷ bytes) = both (not (eqb byte 10)) (is_line bytes)

-- a line's end where it came; none where the input ended
unfoldable pub line_end : Bool → List ℕ
line_end closed = pick closed (10 ∷ []) []

-- the line has the bytes, and one more than it may have where a byte found no room
pub record Keeps (bytes : List ℕ) (l : Line) : Type 0 where
  pub keeps : l ≡ with_bytes empty_line bytes
  pub fits : l.length ≤ line_bytes + 1

-- a line was read: its bytes, up to its end, are what was read and not used, and what was read anew; what follows them
-- is not used afterwards. None is no line: no byte of one was taken
pub record LineRead (before after : Input) (got : Option Line) : Type 0 where
  pub bytes : List ℕ
  pub line : is_line bytes ≡ true
  pub closed : Bool
  pub anew : List ℕ
  pub all : Within before → unused before ++ anew ≡ bytes ++ (line_end closed ++ unused after)
  pub within : Within before → Within after
  pub kept : MatchOption got (bytes ≡ []) (Keeps bytes)
