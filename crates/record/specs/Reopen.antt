-- Reopening a record of document 01: 1; 17; 18; 19; 20; 21; 22 to 27; 28 and 29 in one walk; 30; 31 to 33 in one walk.
-- It opens the givens, performs all moves, undoes, then reads the checks. Any refusal but 1 leaves both memories zero.
-- Assumes nothing.
use Rattle.std.specs.Prelude.{ℕ, zero, suc, Bool, false, not, List, [], ◌∷◌, map, leb, ltb, eqb, length}
use Rattle.sudoku.specs.Tests.{◌⇒◌, first, pick, both, either, count}
use Rattle.sudoku.specs.Grid.{in_range, on_grid, cell_of}
use Rattle.puzzle.specs.declared.Refusal.{Refusal}
use Rattle.puzzle.specs.Refusals.{refusal, accepted, is_accepted, refused_if, or_else}
use Rattle.puzzle.specs.Givens.{is_on, ascending, is_given}
use Rattle.puzzle.specs.Vouch.{vouch}
use Rattle.journal.specs.declared.Move.{Move}
use Rattle.journal.specs.Limits.{max_moves, max_checks}
use Rattle.journal.specs.Bytes.{over}
use Rattle.board.specs.declared.Board.{Board}
use Rattle.board.specs.Board.{state_of, counts_of, board_of, fresh}
use Rattle.board.specs.Open.{Opened, answer, no_moves, no_checks, lent_lengths, wrong_length, turned_away}
use Rattle.play.specs.Play.{Played, played, move_tests, record_move, undo_of}
use Rattle.journal.specs.StoredChecks.{is_right, judged, stored_all}
use Rattle.journal.specs.declared.Asked.{Asked}
use Rattle.record.specs.Items.{Parts}
use Rattle.record.specs.Scan.{malformed, parts_of_bytes}

-- a check's standing is above the limit
unfoldable pub any_late : List Asked → Bool
any_late [] = false
any_late (c ∷ cs) = either (not (leb c.standing max_moves)) (any_late cs)

-- 18 More than 1,024 moves, 256 checks, or a check's standing above 1,024
unfoldable pub oversized : Parts → Refusal
oversized p =
    refused_if
    (either (not (leb (length p.moves) max_moves)) (either (not (leb (length p.checks) max_checks)) (any_late p.checks)))
    (refusal 18 0 0)

-- 20 TooManyUndone; 21 ChecksWithoutMoves
unfoldable pub miscounted : Parts → Refusal
miscounted p =
    or_else (refused_if (ltb (length p.moves) p.undone) (refusal 20 0 0))
    (refused_if (both (eqb (length p.moves) 0) (not (eqb (length p.checks) 0))) (refusal 21 0 0))

-- 17 to 27, before any move is performed
unfoldable pub unreadable : List ℕ → List ℕ → Refusal
unreadable bytes solution =
    let p = parts_of_bytes bytes in
    or_else (malformed bytes)
    (or_else (oversized p)
    (or_else (refused_if (not (ascending p.givens)) (refusal 19 0 0)) (or_else (miscounted p) (vouch p.givens solution))))

-- all moves performed in order, move k first. 28 MoveAfterSolved
-- at move place; 29 Move place refused by inner 3 or 5 to 11
unfoldable pub replay : Board → List ℕ → ℕ → List Move → Played
replay b journal k [] = played accepted b journal
replay b journal k (m ∷ ms) =
    let n = first (move_tests (state_of b) m) in
    let next = record_move b journal m in
    pick (is_on b.solved) (played (refusal 28 k 0) b journal)
    (pick (eqb n 0) (replay next.answer.board next.journal (suc k) ms) (played (refusal 29 k n) b journal))

-- taking back n is one undo and then taking back n less one
unfoldable pub take_back_all : ℕ → Board → List ℕ → Board
take_back_all zero b journal = b
take_back_all (suc n) b journal = take_back_all n (undo_of b journal).board journal

-- how many cells were to play: those that are no givens
unfoldable pub to_play : Board → ℕ
to_play b = count (λ cell. not (is_given b.given cell)) 81 1

-- at check k: 31 Check place refused by inner 3, 5 or 8; 32
-- CheckAfterNoMove; 33 a right digit where one cell was to play
unfoldable pub check_refusal : Board → ℕ → ℕ → Asked → Refusal
check_refusal b cells k c =
    let cell = cell_of c.row c.column in
    let n =
    first
    ((not (on_grid c.row c.column) ⇒ 3) ∷ (is_given b.given cell ⇒ 5) ∷ (not (in_range c.digit) ⇒ 8) ∷ [])
    in
    or_else (refused_if (not (eqb n 0)) (refusal 31 k n))
    (or_else (refused_if (eqb c.standing 0) (refusal 32 k 0))
    (refused_if (both (is_right b.solution cell c.digit) (eqb cells 1)) (refusal 33 k 0)))

unfoldable pub checks_refusal : Board → ℕ → ℕ → List Asked → Refusal
checks_refusal b cells k [] = accepted
checks_refusal b cells k (c ∷ cs) = or_else (check_refusal b cells k c) (checks_refusal b cells (suc k) cs)

-- success leaves slots 1 to made, the stored checks, zero beyond
unfoldable pub reopened : Board → List ℕ → List Asked → Opened
reopened b journal cs =
    record {
      answer = answer accepted (board_of (state_of b) b.solution (counts_of b) (length cs));
      journal = journal;
      checks = over no_checks 0 (stored_all (map (judged b.solution) cs));
    }

-- 30 UndoneWhenSolved; then the undone moves are taken back, and 31 to 33
unfoldable pub settled_record : Parts → Board → List ℕ → Opened
settled_record p b journal =
    let back = take_back_all p.undone b journal in
    let r =
    or_else (refused_if (both (is_on b.solved) (not (eqb p.undone 0))) (refusal 30 0 0))
    (checks_refusal b (to_play b) 1 p.checks)
    in
    pick (is_accepted r) (reopened back journal p.checks) (turned_away r)

-- the moves performed on the fresh board
unfoldable pub replayed : Parts → List ℕ → Opened
replayed p solution =
    let all = replay (fresh p.givens solution) no_moves 1 p.moves in
    pick (is_accepted all.answer.refusal) (settled_record p all.answer.board all.journal)
    (turned_away all.answer.refusal)

unfoldable pub reopen_of : List ℕ → List ℕ → List ℕ → List ℕ → Opened
reopen_of bytes solution journal checks =
    let r = unreadable bytes solution in
    pick (lent_lengths solution journal checks) (pick (is_accepted r) (replayed (parts_of_bytes bytes) solution) (turned_away r))
    (wrong_length journal checks)
