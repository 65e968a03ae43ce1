-- What the library answers where the board's own definitions do not say it: a move that is shown, copied; its version.
-- Assumes nothing.
use Rattle.std.specs.Prelude.{ℕ, ◌*◌, ◌-◌, not, List, [], ◌∷◌, ltb, eqb, length}
use Rattle.sudoku.specs.Tests.{◌⇒◌, first, pick}
use Rattle.sudoku.specs.Grid.{peers_of}
use Rattle.note.specs.Note.{digits_of}
use Rattle.puzzle.specs.Refusals.{refusal, accepted}
use Rattle.journal.specs.Limits.{slot_bytes}
use Rattle.journal.specs.Bytes.{over}
use Rattle.board.specs.declared.Board.{Board}
use Rattle.play.specs.Play.{latest_number, latest_part, next_number, next_part}
use Rattle.pawdoku.specs.declared.Shown.{Shown}
use Rattle.pawdoku.specs.declared.Digits.{Digits}
use Rattle.pawdoku.specs.declared.PeerCells.{PeerCells}

-- ---- a move that is shown

unfoldable pub not_shown : ℕ → Shown
not_shown n = record { refusal = refusal n 0 0; offset = 0; length = 0 }

unfoldable pub shown_at : ℕ → Shown
shown_at offset = record { refusal = accepted; offset = offset; length = slot_bytes }

-- what is answered, and the output afterwards
pub record Showing : Type 0 where
  pub answer : Shown
  pub output : List ℕ

abbrev pub showing : Shown → List ℕ → Showing
showing answer output = record { answer = answer; output = output }

-- refused by n, the number beside the part; else by 34 where the output is shorter than a slot
unfoldable pub show_number : ℕ → ℕ → ℕ
show_number n bytes = first ((not (eqb n 0) ⇒ n) ∷ (ltb bytes slot_bytes ⇒ 34) ∷ [])

-- the part laid at the output's start, its bytes beyond as they were; a refusal leaves them all
unfoldable pub shown : ℕ → ℕ → List ℕ → List ℕ → Showing
shown n offset part output =
    let m = show_number n (length output) in
    pick (eqb m 0) (showing (shown_at offset) (over output 0 part)) (showing (not_shown m) output)

-- the latest standing move, slot `standing`: 1 2 12 34
unfoldable pub latest_shown : Board → List ℕ → List ℕ → Showing
latest_shown b journal output = shown (latest_number b journal) (slot_bytes * (b.standing - 1)) (latest_part b journal) output

-- the next to redo, the slot behind it: 1 2 13 34
unfoldable pub next_shown : Board → List ℕ → List ℕ → Showing
next_shown b journal output = shown (next_number b journal) (slot_bytes * b.standing) (next_part b journal) output

-- ---- arrays, which C returns in a struct

unfoldable pub digits_in : ℕ → Digits
digits_in note = record { digits = digits_of note }

unfoldable pub peer_cells : ℕ → PeerCells
peer_cells cell = record { cells = peers_of cell }

-- ---- the boundary

-- which version of names, layouts and numbers the library has
abbrev pub version : ℕ
version = 4
