-- The laws of opening: the puzzle's tests, which answer alike whatever the memory holds, and then memory of zeros.
-- Assumes nothing.
use Prim.Native.Nat.{ℕ, ◌/◌, ◌%◌}
use mathlib.Core.Path.{◌≡◌, refl}
use mathlib.Core.Bool.{Bool, true, false}
use mathlib.Core.List.{List}
use borrow.Author.Tests.{eq-eqb, ne_eqb, eqb-true}
use lib.Dec.{eqb}
use lib.ListN.{length, replicate}
use Rattle.sudoku.specs.Tests.{pick, both}
use Rattle.sudoku.proofs.Walks.{both_left, both_right}
use Rattle.puzzle.specs.declared.Refusal.{Refusal}
use Rattle.puzzle.specs.declared.Given.{Given}
use Rattle.puzzle.specs.Refusals.{accepted, is_accepted}
use Rattle.puzzle.specs.declared.Layout.TheVariants.{Triples}
use Rattle.puzzle.specs.Givens.{triples}
use Rattle.puzzle.specs.Code.GivenBytes.{givens_in}
use Rattle.puzzle.specs.Vouch.{well_posed}
use Rattle.puzzle.specs.declared.error.WellPosedError.{WellPosedError}
use Rattle.puzzle.specs.Errors.{well_posed_refusal}
use Rattle.puzzle.proofs.GivenBytes.{triples_in}
use Rattle.puzzle.proofs.Refusals.{refuses}
use Rattle.journal.specs.Limits.{journal_bytes, check_memory}
use Rattle.board.specs.declared.Board.{Board}
use Rattle.board.specs.Board.{fresh, zero_board}
use Rattle.board.specs.Open.{answer, Gives, no_moves, no_checks, turned_away, opened_fresh, posed, lent_lengths, open_of}

-- what opening gives where number 1 does not apply
either : (t : Bool) (r : Refusal) (b : Board)
    → Gives (pick t (record { answer = answer accepted b; journal = no_moves; checks = no_checks }) (turned_away r)) (pick t (answer accepted b) (answer r zero_board)) no_moves no_checks
unfolding pick turned_away
either true r b = record { answer = refl; journal = refl; checks = refl }
either false r b = record { answer = refl; journal = refl; checks = refl }

pub zeroed : (gs : List Given) (solution : List ℕ)
    → Gives (pick (is_accepted (well_posed gs solution)) (opened_fresh gs solution) (turned_away (well_posed gs solution))) (posed gs solution) no_moves no_checks
unfolding posed opened_fresh
zeroed gs solution = either (is_accepted (well_posed gs solution)) (well_posed gs solution) (fresh gs solution)

module _ (givens solution journal checks : List ℕ) (l : lent_lengths solution journal checks ≡ true) where
  rest : both (eqb (length checks) check_memory) (eqb (length solution) 81) ≡ true
  unfolding lent_lengths
  rest = both_right (eqb (length journal) journal_bytes) _ l

  journal_length : length journal ≡ journal_bytes
  unfolding lent_lengths
  journal_length = eqb-true _ _ (both_left _ _ l)

  pub solution_length : length solution ≡ 81
  solution_length = eqb-true _ _ (both_right (eqb (length checks) check_memory) _ rest)

  check_length : length checks ≡ check_memory
  check_length = eqb-true _ _ (both_left _ _ rest)

  pub right_lent : length givens % 3 ≡ 0
      → Gives (open_of givens solution journal checks) (posed (triples givens) solution) (replicate (length journal) 0) (replicate (length checks) 0)
  unfolding open_of no_moves no_checks pick both
  right_lent h =
      rw (journal_length, check_length, l, eq-eqb (length givens % 3) 0 h) (zeroed (triples givens) solution)

-- ---- the puzzle's tests, of the givens as they stand in the bytes, three bytes each

module _ (givens solution : List ℕ) where
  abbrev here : List Given
  here = givens_in Triples givens (length givens / 3)

  pub posed_fresh : accepted ≡ well_posed here solution → answer accepted (fresh here solution) ≡ posed (triples givens) solution
  unfolding posed is_accepted pick
  posed_fresh e = rw (triples_in givens, ← e)

  pub posed_refused : (e : WellPosedError) → well_posed_refusal e ≡ well_posed here solution
      → answer (well_posed_refusal e) zero_board ≡ posed (triples givens) solution
  unfolding posed is_accepted pick
  posed_refused e p = rw (triples_in givens, ← p, ne_eqb _ 0 (refuses e))
