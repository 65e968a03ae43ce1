-- What loading leaves, by what was found on the way.
-- Assumes nothing.
use Prim.Native.Nat.{ℕ}
use mathlib.Core.Path.{◌≡◌, sym, ap, subst, ◌∙◌}
use native.Mathlib.Omega.{arith}
use mathlib.Core.Bool.{true, false}
use mathlib.Core.List.{List}
use borrow.Author.Tests.{eq-eqb, ne_eqb}
use lib.ListN.{length}
use Rattle.std.specs.Borrow.{Bor}
use Rattle.std.specs.Prelude.{◌<◌, Option, Some, None, IfSome}
use Rattle.sudoku.proofs.Walks.{pick_true, pick_false}
use Rattle.puzzle.specs.declared.Refusal.{Refusal}
use Rattle.puzzle.specs.Refusals.{accepted, is_accepted}
use Rattle.board.specs.declared.Answer.{Answer}
use Rattle.board.specs.Open.{Opened, no_moves, no_checks, open_of, Gives}
use Rattle.lines.specs.declared.error.LineError.{LineError}
use Rattle.lines.specs.Errors.{line_error_refusal}
use Rattle.lines.specs.Lines.{line_refusal, values_of, digits_bytes}
use Rattle.lines.proofs.Answered.{line_numbered}
use Rattle.lines.proofs.Reading.{digits_of_line}
use Rattle.files.specs.Disk.{Content, cells_in}
use Rattle.files.specs.Load.{left, nothing_loaded, stays, takes_place, load_file, load_solved, load_of, name_of, open_line, load_line}

-- what was opened in memory apart

module _ (o : Opened) (journal checks : List ℕ) where
  pub given_apart : (a : Answer) (j c : List ℕ) → Gives o a j c → takes_place (record { answer = a; journal = j; checks = c }) journal checks ≡ takes_place o journal checks
  given_apart a j c gives = λ i. takes_place (record { answer = gives.answer i; journal = gives.journal i; checks = gives.checks i }) journal checks

-- a line, by whether it was read

number_of : {r s : Refusal} → r ≡ s → r.number ≡ s.number
number_of p = ap (λ (x : Refusal). x.number) p

is_no_line : (line : List ℕ) (e : LineError) → line_error_refusal e ≡ line_refusal line → is_accepted (line_refusal line) ≡ false
unfolding is_accepted
is_no_line line e p = ne_eqb (line_refusal line).number 0 (λ z. line_numbered e (number_of p ∙ z))

is_line_lem : (line : List ℕ) → accepted ≡ line_refusal line → is_accepted (line_refusal line) ≡ true
unfolding is_accepted
is_line_lem line p = eq-eqb (line_refusal line).number 0 (number_of (sym p))

module _ (line solution journal checks : List ℕ) where
  pub line_refused : (e : LineError) → line_error_refusal e ≡ line_refusal line → left nothing_loaded journal checks ≡ open_line line solution journal checks
  unfolding open_line stays
  line_refused e p = sym (pick_false _ _ _ (is_no_line line e p))

  pub line_opened : accepted ≡ line_refusal line → takes_place (open_of (digits_bytes (values_of line)) solution no_moves no_checks) journal checks ≡ open_line line solution journal checks
  unfolding open_line
  line_opened p =
      let t = is_line_lem line p in
      ap (λ (l : List ℕ). takes_place (open_of l solution no_moves no_checks) journal checks) (digits_of_line line t)
      ∙ sym (pick_true _ _ _ t)

  pub solution_refused : (e : LineError) → line_error_refusal e ≡ line_refusal solution → left nothing_loaded journal checks ≡ load_line line solution journal checks
  unfolding load_line stays
  solution_refused e p = sym (pick_false _ _ _ (is_no_line solution e p))

  pub solution_read : accepted ≡ line_refusal solution → open_line line (values_of solution) journal checks ≡ load_line line solution journal checks
  unfolding load_line
  solution_read p = sym (pick_true _ _ _ (is_line_lem solution p))

-- with the solution at hand, or with that of a second file

module _ (named atHand journal checks : List ℕ) (file answers : Content) where
  pub by_hand : length named ≡ 0 → load_file file atHand journal checks ≡ load_of named file answers atHand journal checks
  unfolding load_of
  by_hand e = sym (pick_true _ _ _ (eq-eqb (length named) 0 e))

  by_cells : (length named ≡ 0 → ⊥) → (found : Option (List ℕ)) → cells_in answers ≡ found → load_solved file found journal checks ≡ load_of named file answers atHand journal checks
  unfolding load_of
  by_cells n found e =
      ap (λ (x : Option (List ℕ)). load_solved file x journal checks) (sym e)
      ∙ sym (pick_false _ _ _ (ne_eqb (length named) 0 n))

  pub no_solution : (length named ≡ 0 → ⊥) → cells_in answers ≡ None → stays journal checks ≡ load_of named file answers atHand journal checks
  unfolding load_solved
  no_solution n e = by_cells n None e

  pub by_file : (length named ≡ 0 → ⊥) → (right : List ℕ) → cells_in answers ≡ Some right → load_file file right journal checks ≡ load_of named file answers atHand journal checks
  unfolding load_solved
  by_file n right e = by_cells n (Some right) e

-- the name of a solution's file, by what was found of it

module _ (given found : Option (Bor (List ℕ))) (same : name_of found ≡ name_of given) where
  pub none_named : found ≡ None → length (name_of given) ≡ 0
  unfolding name_of
  none_named e = ap (λ (l : List ℕ). length l) (sym same) ∙ ap (λ (n : Option (Bor (List ℕ))). length (name_of n)) e

  pub some_named : IfSome found (λ name. 0 < length name.now) → (name : Bor (List ℕ)) → found ≡ Some name → length (name_of given) ≡ 0 → ⊥
  unfolding name_of
  some_named there name e none =
      let long : 0 < length name.now = subst (λ (n : Option (Bor (List ℕ))). IfSome n (λ m. 0 < length m.now)) e there in
      let is : length (name_of given) ≡ length name.now = ap (λ (l : List ℕ). length l) (sym same ∙ ap name_of e) in
      omega arith
