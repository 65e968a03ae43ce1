-- Laws for the questions of yes and no, of which a test decides whether they are answered, and for the keypad whole.
-- Assumes nothing.
use Prim.Native.Nat.{ℕ}
use mathlib.Core.Path.{◌≡◌, refl, ap, ◌∙◌}
use mathlib.Core.Bool.{Bool, false}
use native.Mathlib.Omega.{arith}
use borrow.Author.Tests.{ne_eqb}
use lib.Dec.{eqb}
use lib.ListN.{replicate}
use Rattle.std.specs.Prelude.{Result, Ok, Err}
use Rattle.std.specs.Result.{MatchResult, IsOkAnd}
use Rattle.sudoku.specs.Tests.{first, pick, both, listed}
use Rattle.sudoku.specs.Grid.{in_range}
use Rattle.sudoku.proofs.Walks.{by_test}
use Rattle.puzzle.specs.Puzzle.{keypad}
use Rattle.board.specs.declared.Board.{Board}
use Rattle.board.specs.Board.{is_board}
use Rattle.board.specs.declared.error.PlayError.{PlayError}
use Rattle.board.specs.Errors.{play_number, number_told}
use Rattle.board.proofs.Told.{has_number}
use Rattle.questions.specs.Questions.{board_number, key_number, left_question, yes_no, answered}

-- an error's number is none of an accepted call
pub no_zero : (e : PlayError) → eqb (play_number e) 0 ≡ false
no_zero e = ne_eqb _ 0 (λ z. omega (arith, has_number e))

-- beside a refusal stands no, whatever would hold
refused_no : (e : PlayError) (holds : Bool) → yes_no (play_number e) false ≡ yes_no (play_number e) holds
unfolding yes_no both
refused_no e holds = rw (no_zero e)

-- the question answered, where the test lets it through
pub asked :
    (t : Result (Unit {0}) PlayError) (a : Result Bool PlayError) (n : ℕ) (holds : Bool) (R : Unit {0} → Bool → Type 0)
    → number_told t ≡ n
    → MatchResult t (λ x. IsOkAnd a (R x)) (λ e. a ≡ Err e)
    → ((r : Bool) → R tt r → r ≡ holds)
    → answered a ≡ yes_no n holds
asked (Ok x) (Ok r) n holds R p m f = ap (yes_no 0) (f r m) ∙ ap (λ k. yes_no k holds) p
asked (Ok x) (Err e) n holds R p m f = absurd m
asked (Err e) (Ok r) n holds R p m f = cc
asked (Err e) (Err d) n holds R p m f =
    let q : d ≡ e = cc in rw q (refused_no e holds ∙ ap (λ k. yes_no k holds) p)

-- of the questions for the nine keys none is refused where the board is one, and else each
pub keys_asked : (b : Board) → listed (λ key. (left_question b key).left) 9 1 ≡ pick (eqb (board_number b) 0) (keypad b.digits) (replicate 9 0)
unfolding board_number left_question key_number keypad listed first pick in_range both
keys_asked b = by_test (is_board b) (λ t. rw t refl) (λ t. rw t refl)
