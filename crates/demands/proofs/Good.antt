-- What holds of every book: its givens open, its moves play, its counts are within the limits, a solved position
-- is the last, and its checks are those that reopening admits. A new book has it, and every call keeps it.
-- Assumes nothing.
use Prim.Native.Nat.{ℕ, ◌+◌, ◌-◌, ◌≤◌}
use mathlib.Core.Path.{◌≡◌, refl, sym, ap, subst, ◌∙◌}
use mathlib.Core.Bool.{Bool, true, false, not}
use mathlib.Core.List.{List, [], ◌∷◌, ◌++◌}
use native.Mathlib.Omega.{arith}
use lib.Dec.{eqb}
use lib.ListN.{length, take, length-append}
use lib.Seq.{take_all}
use borrow.Author.Tests.{not-true, not-false, eqb-true, eqb-false}
use Rattle.puzzle.specs.Givens.{is_on, given_cells, is_given}
use Rattle.sudoku.specs.Tests.{◌⇒◌, first, both, count}
use Rattle.sudoku.proofs.Walks.{by_test, not_both_ways, passed, both_left, both_right}
use Rattle.sudoku.proofs.Each.{Each, each_append}
use Rattle.sudoku.specs.Grid.{in_range, on_grid, cell_of}
use Rattle.sudoku.proofs.Grid.{in_range_lem, cell_of_is_cell}
use Rattle.puzzle.specs.declared.Given.{Given}
use Rattle.puzzle.proofs.Puzzle.{digit_held}
use Rattle.journal.specs.declared.Move.{Move}
use Rattle.journal.specs.declared.Move.TheVariants.{Place, Erase, WriteMark, StrikeMark}
use Rattle.journal.specs.Limits.{max_moves, max_checks}
use Rattle.journal.specs.State.{State, opening, digit_at, holds_players_digit}
use Rattle.journal.specs.StoredChecks.{Stored, is_right}
use Rattle.journal.proofs.Moves.{Fit}
use Rattle.play.specs.declared.Play.{Play}
use Rattle.play.specs.Play.{move_tests}
use Rattle.calls.specs.declared.Call.{Call}
use Rattle.calls.specs.declared.Call.TheVariants.{Make, Undo, Redo, Check}
use Rattle.demands.specs.Book.{Book, new_book, made, perform_all, state_in, refused_by, added, taken, with_moves, check_in, step, keep}
use Rattle.demands.specs.Opens.{Opens}
use Rattle.demands.proofs.Opening.{opening_free}
use Rattle.demands.proofs.Plays.{Passes, Plays, plays_append, plays_take, length_one_more}
use Rattle.demands.proofs.Refusals.{first_last, after_step, refused_added, refused_undo, refused_redo, refused_check}
use Rattle.demands.proofs.Reached.{reached_fit, reached_given, reached_is_given}
use Rattle.demands.proofs.OneLeft.{right_solves}

-- a check that reopening admits: on the grid and no given's, a digit, after 1 to 1,024
-- moves, the verdict the solution's, and not a right digit where one cell was to play
pub record Admitted (givens : List Given) (solution : List ℕ) (c : Stored) : Type 0 where
  pub grid : on_grid c.row c.column ≡ true
  pub free : is_given (opening givens).given (cell_of c.row c.column) ≡ false
  pub range : in_range c.digit ≡ true
  pub some : 1 ≤ c.standing
  pub few : c.standing ≤ max_moves
  pub verdict : c.right ≡ is_right solution (cell_of c.row c.column) c.digit
  pub unfinished : both (is_right solution (cell_of c.row c.column) c.digit) (eqb (count (λ cell. not (is_given (opening givens).given cell)) 81 1) 1) ≡ false

pub record Good (k : Book) : Type 0 where
  pub opens : Opens k.givens k.solution
  pub plays : Plays (opening k.givens) k.moves
  pub within : k.standing ≤ made k
  pub few : made k ≤ max_moves
  pub few_checks : length k.checks ≤ max_checks
  pub final : is_on (perform_all (opening k.givens) k.moves).solved ≡ true → k.standing ≡ made k
  pub asked : made k ≡ 0 → length k.checks ≡ 0
  pub admitted : Each (Admitted k.givens k.solution) k.checks

-- ---- what an accepted call has passed

last_passed : (s : State) (m : Move) (t : Bool) → first (move_tests s m ++ ((t ⇒ 15) ∷ [])) ≡ 0 → t ≡ false
unfolding move_tests
last_passed s (Place row column digit) t p =
    (passed t 14 [] (passed _ 8 _ (passed _ 7 _ (passed _ 4 _ (passed _ 3 _ (passed _ 2 _ p).1).1).1).1).1).0
last_passed s (Erase row column) t p = (passed t 14 [] (passed _ 5 _ (passed _ 3 _ (passed _ 2 _ p).1).1).1).0
last_passed s (WriteMark row column digit) t p =
    (passed t 14 [] (passed _ 9 _ (passed _ 7 _ (passed _ 6 _ (passed _ 3 _ (passed _ 2 _ p).1).1).1).1).1).0
last_passed s (StrikeMark row column digit) t p =
    (passed t 14 [] (passed _ 10 _ (passed _ 6 _ (passed _ 3 _ (passed _ 2 _ p).1).1).1).1).0

module _ (k : Book) where
  module _ (a : Play) (p : refused_by k (Make a) ≡ 0) where
    below_limit : eqb k.standing max_moves ≡ false
    below_limit = last_passed (state_in k) (added (state_in k) a) (eqb k.standing max_moves) (sym (refused_added k a) ∙ p)

    pub make_room : k.standing ≡ max_moves → ⊥
    make_room = eqb-false k.standing max_moves below_limit

    pub make_passes : Passes (state_in k) (added (state_in k) a)
    unfolding Passes
    make_passes = sym (first_last (move_tests (state_in k) (added (state_in k) a)) (eqb k.standing max_moves) 15 below_limit) ∙ sym (refused_added k a) ∙ p

  pub undo_unsolved : refused_by k Undo ≡ 0 → is_on (state_in k).solved ≡ false
  undo_unsolved p = (passed _ 3 _ (sym (refused_undo k) ∙ p)).0

  pub undo_some : refused_by k Undo ≡ 0 → k.standing ≡ 0 → ⊥
  undo_some p = eqb-false k.standing 0 (passed _ 11 _ (passed _ 3 _ (sym (refused_undo k) ∙ p)).1).0

  pub redo_some : refused_by k Redo ≡ 0 → k.standing ≡ made k → ⊥
  redo_some p = eqb-false k.standing (made k) (passed _ 12 _ (passed _ 3 _ (sym (refused_redo k) ∙ p)).1).0

  module _ (row column : ℕ) (p : refused_by k (Check row column) ≡ 0) where
    pub check_grid : on_grid row column ≡ true
    check_grid = not-false _ (passed _ 2 _ (sym (refused_check k row column) ∙ p)).0

    pub check_unsolved : is_on (state_in k).solved ≡ false
    check_unsolved = (passed _ 3 _ (passed _ 2 _ (sym (refused_check k row column) ∙ p)).1).0

    pub check_holds : holds_players_digit (state_in k) (cell_of row column) ≡ true
    check_holds = not-false _ (passed _ 5 _ (passed _ 3 _ (passed _ 2 _ (sym (refused_check k row column) ∙ p)).1).1).0

    pub check_room : length k.checks ≡ max_checks → ⊥
    check_room =
        eqb-false (length k.checks) max_checks
        (passed _ 15 _ (passed _ 5 _ (passed _ 3 _ (passed _ 2 _ (sym (refused_check k row column) ∙ p)).1).1).1).0

-- ---- an accepted call keeps it

module _ (k : Book) (g : Good k) where
  -- a position that is solved is the last
  pub last_solved : is_on (state_in k).solved ≡ false → is_on (perform_all (opening k.givens) k.moves).solved ≡ true → ⊥
  unfolding state_in made
  last_solved u s =
      not_both_ways (is_on (perform_all (opening k.givens) k.moves).solved) s
      (subst (λ (l : List Move). is_on (perform_all (opening k.givens) l).solved ≡ false)
      (take_all k.standing k.moves (omega (arith, g.final s))) u)

  pub standing_plays : Plays (opening k.givens) (take k.standing k.moves)
  standing_plays = plays_take (opening k.givens) k.moves k.standing g.plays

  -- the position is one that moves reach from the opening
  pub good_fit : Fit (state_in k)
  unfolding state_in
  good_fit = reached_fit k.givens k.solution g.opens (take k.standing k.moves) standing_plays

  pub good_given : (state_in k).given ≡ given_cells k.givens
  unfolding state_in
  good_given = reached_given k.givens k.solution g.opens (take k.standing k.moves) standing_plays

  pub good_is_given : (cell : ℕ) → is_given (state_in k).given cell ≡ is_given (opening k.givens).given cell
  unfolding state_in
  good_is_given cell = reached_is_given k.givens k.solution g.opens (take k.standing k.moves) standing_plays cell

  good_make : (a : Play) → refused_by k (Make a) ≡ 0 → Good (taken k (Make a))
  unfolding taken with_moves made state_in Plays
  good_make a p =
      record {
        opens = g.opens;
        plays = plays_append (opening k.givens) (take k.standing k.moves) (m ∷ []) standing_plays (make_passes k a p, tt);
        within = omega (arith, counted);
        few = omega (arith, counted, make_room k a p, g.within, g.few);
        few_checks = g.few_checks;
        final = λ s. sym counted;
        asked = λ e. absurd (omega (arith, counted));
        admitted = g.admitted;
      }
    where
      m : Move
      m = added (state_in k) a

      counted : length (take k.standing k.moves ++ (m ∷ [])) ≡ k.standing + 1
      counted = length_one_more k.moves k.standing m g.within

  -- the same moves with another standing count
  good_standing : (n : ℕ) → n ≤ made k → (is_on (perform_all (opening k.givens) k.moves).solved ≡ true → ⊥) → Good (with_moves k k.moves n)
  unfolding with_moves made
  good_standing n u unsolved =
      record {
        opens = g.opens;
        plays = g.plays;
        within = u;
        few = g.few;
        few_checks = g.few_checks;
        final = λ s. absurd (unsolved s);
        asked = g.asked;
        admitted = g.admitted;
      }

  good_undo : refused_by k Undo ≡ 0 → Good (taken k Undo)
  unfolding taken
  good_undo p = good_standing (k.standing - 1) (omega (arith, g.within)) (last_solved (undo_unsolved k p))

  good_redo : refused_by k Redo ≡ 0 → Good (taken k Redo)
  unfolding taken
  good_redo p = good_standing (k.standing + 1) (omega (arith, g.within, redo_some k p)) (λ s. redo_some k p (g.final s))

  module _ (row column : ℕ) (p : refused_by k (Check row column) ≡ 0) where
    free_cell : is_given (opening k.givens).given (cell_of row column) ≡ false
    unfolding holds_players_digit
    free_cell = sym (good_is_given (cell_of row column)) ∙ not-true _ (both_right _ _ (check_holds k row column p))

    digit_some : digit_at (state_in k) (cell_of row column) ≡ 0 → ⊥
    unfolding holds_players_digit digit_at
    digit_some = digit_held (state_in k).digits (cell_of row column) (both_left _ _ (check_holds k row column p))

    after_move : 1 ≤ k.standing
    unfolding state_in perform_all
    after_move =
        by_test (eqb k.standing 0)
        (λ t. absurd (digit_some
        (ap (λ (n : ℕ). digit_at (perform_all (opening k.givens) (take n k.moves)) (cell_of row column)) (eqb-true k.standing 0 t)
        ∙ opening_free k.givens k.solution g.opens (cell_of row column) (cell_of_is_cell row column (check_grid k row column p)) free_cell)))
        (λ t. omega (arith, eqb-false k.standing 0 t))

    check_admitted : Admitted k.givens k.solution (check_in k row column)
    unfolding check_in state_in made is_right
    check_admitted =
        record {
          grid = check_grid k row column p;
          free = free_cell;
          range = in_range_lem _ (omega (arith, digit_some)) (good_fit.digits (cell_of row column) (cell_of_is_cell row column (check_grid k row column p)));
          some = after_move;
          few = omega (arith, g.within, g.few);
          verdict = refl;
          unfinished = by_test (both (is_right k.solution (cell_of row column) (digit_at (state_in k) (cell_of row column))) (eqb (count (λ cell. not (is_given (opening k.givens).given cell)) 81 1) 1))
              (λ t. absurd (not_both_ways (is_on (state_in k).solved)
              (right_solves k.givens k.solution g.opens (eqb-true _ _ (both_right _ _ t)) (take k.standing k.moves) standing_plays
              (cell_of row column) (cell_of_is_cell row column (check_grid k row column p)) free_cell (sym (eqb-true _ _ (both_left _ _ t))))
              (check_unsolved k row column p)))
              (λ t. t);
        }

    good_check : Good (taken k (Check row column))
    unfolding taken made Each
    good_check =
        record {
          opens = g.opens;
          plays = g.plays;
          within = g.within;
          few = g.few;
          few_checks = omega (arith, length-append k.checks (check_in k row column ∷ []), check_room k row column p, g.few_checks);
          final = g.final;
          asked = λ e. absurd (omega (arith, after_move, g.within));
          admitted = each_append (Admitted k.givens k.solution) k.checks (check_in k row column ∷ []) g.admitted (check_admitted, tt);
        }

  pub good_taken : (c : Call) → refused_by k c ≡ 0 → Good (taken k c)
  good_taken (Make a) p = good_make a p
  good_taken Undo p = good_undo p
  good_taken Redo p = good_redo p
  good_taken (Check row column) p = good_check row column p

  pub good_step : (c : Call) → Good (step k c)
  good_step c = after_step k c Good g (good_taken c)

-- ---- every book

pub good_new : (givens : List Given) (solution : List ℕ) → Opens givens solution → Good (new_book givens solution)
unfolding new_book made Plays Each
good_new givens solution o =
    record {
      opens = o;
      plays = tt;
      within = omega arith;
      few = omega arith;
      few_checks = omega arith;
      final = λ s. refl;
      asked = λ e. refl;
      admitted = tt;
    }

pub good_keep : (k : Book) (cs : List Call) → Good k → Good (keep k cs)
unfolding keep
good_keep k [] g = g
good_keep k (c ∷ cs) g = good_keep (step k c) cs (good_step k g c)
