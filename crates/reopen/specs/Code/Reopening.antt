-- How the code reopens a record: the moves and the checks where they stand in
-- the bytes, why one move is refused, and what is left to do after each part.
-- Assumes nothing.
use Rattle.std.specs.Prelude.{ℕ, zero, suc, ◌+◌, ◌-◌, ◌*◌, ◌≡◌, not, List, [], ◌∷◌, Result, IfOk, eqb, length}
use Rattle.puzzle.specs.Givens.{is_on, is_given}
use Rattle.sudoku.specs.Tests.{◌⇒◌, first, pick, listed}
use Rattle.sudoku.specs.Grid.{in_range, on_grid, cell_of}
use Rattle.puzzle.specs.declared.Refusal.{Refusal}
use Rattle.puzzle.specs.Refusals.{refusal, accepted, is_accepted, told}
use Rattle.journal.specs.declared.Move.{Move}
use Rattle.journal.specs.State.{State}
use Rattle.board.specs.declared.Board.{Board}
use Rattle.board.specs.Open.{answer, Opened, Gives, turned_away}
use Rattle.play.specs.Play.{move_tests}
use Rattle.journal.specs.declared.Asked.{Asked}
use Rattle.record.specs.declared.error.ReopenError.{ReopenError}
use Rattle.record.specs.declared.Item.TheVariants.{Played as PlayedItem}
use Rattle.record.specs.Errors.{reopen_refusal}
use Rattle.record.specs.Items.{encode}
use Rattle.record.specs.Scan.{parts_of_bytes}
use Rattle.record.specs.Code.Counting.{move_at, asked_from}
use Rattle.record.specs.Reopen.{unreadable, settled_record, replayed}

-- n moves, the first of which stands at an offset
unfoldable pub moves_at : List ℕ → ℕ → ℕ → List Move
moves_at bytes at zero = []
moves_at bytes at (suc n) = move_at bytes at ∷ moves_at bytes (at + length (encode (PlayedItem (move_at bytes at)))) n

-- n checks, six bytes each, the first of which stands at an offset
unfoldable pub asks_at : List ℕ → ℕ → ℕ → List Asked
asks_at bytes start n = listed (λ k. asked_from bytes (start + 6 * (k - 1))) n 1

-- why move k is refused: 28 before 29
unfoldable pub next_refusal : State → ℕ → Move → Refusal
next_refusal s k m =
    let n = first (move_tests s m) in
    pick (is_on s.solved) (refusal 28 k 0) (pick (eqb n 0) accepted (refusal 29 k n))

-- 3, 5 or 8 of a check, 0 where none applies
unfoldable pub asked_number : List ℕ → Asked → ℕ
asked_number given c =
    first
    ((not (on_grid c.row c.column) ⇒ 3)
    ∷ (is_given given (cell_of c.row c.column) ⇒ 5)
    ∷ (not (in_range c.digit) ⇒ 8)
    ∷ [])

-- 30, the undone moves taken back, 31 to 33
unfoldable pub settled_by : ℕ → List Asked → Board → List ℕ → Opened
settled_by undone cs b journal = settled_record (record { givens = []; moves = []; undone = undone; checks = cs }) b journal

-- where 1 does not apply
unfoldable pub reopened_of : List ℕ → List ℕ → Opened
reopened_of bytes solution =
    let r = unreadable bytes solution in
    pick (is_accepted r) (replayed (parts_of_bytes bytes) solution) (turned_away r)

-- what is answered refuses as `o` does, or it is o's board, and the memory is o's
pub record Reopens (o : Opened) (r : Result Board ReopenError) (j c : List ℕ) : Type 0 where
  pub refusal : told reopen_refusal r ≡ o.answer.refusal
  pub rest : IfOk r (λ b. Gives o (answer accepted b) j c)
