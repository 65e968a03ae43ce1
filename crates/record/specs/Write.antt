-- Writing a record of document 01: refusals 1, 2, 14, 34; the record in the output, bytes beyond it as they were.
-- Assumes nothing.
use Rattle.std.specs.Prelude.{ℕ, ◌-◌, List, ltb, eqb, length}
use Rattle.sudoku.specs.Tests.{pick, both, listed}
use Rattle.sudoku.specs.Grid.{at}
use Rattle.puzzle.specs.declared.Given.{Given as Setters}
use Rattle.puzzle.specs.declared.Refusal.{Refusal}
use Rattle.puzzle.specs.Refusals.{refusal, accepted, is_accepted, refused_if, or_else, first_refused}
use Rattle.puzzle.specs.Givens.{is_given, givens_by}
use Rattle.journal.specs.declared.Move.{Move}
use Rattle.journal.specs.Limits.{journal_bytes, check_memory}
use Rattle.journal.specs.Bytes.{over}
use Rattle.journal.specs.Slots.{slot_at, move_of}
use Rattle.journal.specs.StoredChecks.{asked_at}
use Rattle.board.specs.declared.Board.{Board}
use Rattle.play.specs.Play.{unsound_check, journal_refusal}
use Rattle.journal.specs.declared.Asked.{Asked}
use Rattle.record.specs.declared.Written.{Written}
use Rattle.record.specs.Items.{Parts, record_of}

-- the givens of a board, in the order of their cells
unfoldable pub givens_of : Board → List Setters
givens_of b = givens_by (is_given b.given) (at b.digits) 81 1

-- the moves of slots 1 to made
unfoldable pub moves_of : List ℕ → ℕ → List Move
moves_of journal made = listed (λ n. move_of (slot_at journal n)) made 1

-- what the stored checks asked
unfoldable pub asked_of : List ℕ → ℕ → List Asked
asked_of checks count = listed (asked_at checks) count 1

-- what a board and its memory hold, as a record's parts; undone is made less standing
unfoldable pub parts_of : Board → List ℕ → List ℕ → Parts
parts_of b journal checks =
    record {
      givens = givens_of b;
      moves = moves_of journal b.made;
      undone = b.made - b.standing;
      checks = asked_of checks b.checks;
    }

-- 1; 2; 14 for slots 1 to made, then for the stored checks
unfoldable pub unwritable : Board → List ℕ → List ℕ → Refusal
unwritable b journal checks =
    or_else (journal_refusal (both (eqb (length journal) journal_bytes) (eqb (length checks) check_memory)) b journal)
    (first_refused (unsound_check b.given checks) b.checks 1)

-- the same, and 34 Output shorter than the record
unfoldable pub write_refusal : Board → List ℕ → List ℕ → List ℕ → Refusal
write_refusal b journal checks output =
    or_else (unwritable b journal checks)
    (refused_if (ltb (length output) (length (record_of (parts_of b journal checks)))) (refusal 34 0 0))

-- what a call that writes bytes answers, and the output afterwards
pub record Wrote : Type 0 where
  pub answer : Written
  pub output : List ℕ

abbrev pub wrote : Refusal → ℕ → List ℕ → Wrote
wrote r n output = record { answer = record { refusal = r; length = n }; output = output }

-- refused by r, and every byte of the output stays; else the bytes stand at its front, and those beyond them stay
unfoldable pub wrote_by : Refusal → List ℕ → List ℕ → Wrote
wrote_by r bytes output = pick (is_accepted r) (wrote accepted (length bytes) (over output 0 bytes)) (wrote r 0 output)

unfoldable pub write_of : Board → List ℕ → List ℕ → List ℕ → Wrote
write_of b journal checks output = wrote_by (write_refusal b journal checks output) (record_of (parts_of b journal checks)) output
