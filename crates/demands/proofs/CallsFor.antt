-- For a record that reopening accepts, calls from the fresh board that make a book of its moves, its undone
-- count and its checks: a line of play for each check, undone again, then the moves, then as many undone.
-- Assumes nothing.
use Prim.Native.Nat.{ℕ, zero, suc, ◌+◌, ◌-◌, ◌≤◌, ◌<◌}
use mathlib.Core.Path.{◌≡◌, refl, sym, ap, ◌∙◌}
use mathlib.Core.Bool.{true, false, not}
use mathlib.Core.List.{List, [], ◌∷◌, ◌++◌, append_assoc, append-nil, map}
use native.Mathlib.Omega.{arith}
use lib.Dec.{eqb}
use lib.ListN.{length, take, replicate, length-append}
use lib.Seq.{take_all}
use borrow.Author.Tests.{eq-eqb, eqb-true, eqb-false}
use Rattle.sudoku.specs.Tests.{both, count, bit}
use Rattle.sudoku.proofs.Walks.{by_test, not_both_ways, both_true}
use Rattle.sudoku.proofs.Each.{Each}
use Rattle.sudoku.specs.Grid.{in_range, on_grid, cell_of, is_cell, at, put}
use Rattle.sudoku.proofs.Grid.{cell_of_is_cell, range_from}
use Rattle.note.specs.Note.{contains}
use Rattle.note.proofs.Note.{contains_zero}
use Rattle.puzzle.specs.declared.Given.{Given}
use Rattle.puzzle.specs.Givens.{is_on, digits_of, given_cells, is_given}
use Rattle.puzzle.specs.Puzzle.{is_full, is_consistent}
use Rattle.puzzle.proofs.Puzzle.{holds_digit_lem}
use Rattle.journal.specs.declared.Move.{Move}
use Rattle.journal.specs.Limits.{max_moves, max_checks}
use Rattle.journal.specs.State.{opening, digit_at, holds_players_digit}
use Rattle.journal.specs.StoredChecks.{Stored, is_right, judge, judged}
use Rattle.journal.specs.declared.Asked.{Asked}
use Rattle.record.proofs.Readable.{InTime}
use Rattle.calls.specs.declared.Call.{Call}
use Rattle.calls.specs.declared.Call.TheVariants.{Undo, Check}
use Rattle.demands.specs.Book.{Book, new_book, perform_all, step, keep}
use Rattle.demands.specs.Opens.{Opens}
use Rattle.demands.proofs.Opening.{opening_fit, opening_free, opening_note}
use Rattle.demands.proofs.Plays.{Plays}
use Rattle.demands.proofs.Reached.{on_the_way}
use Rattle.demands.proofs.Making.{make_all, book_of, keep_append, makes_some, undos, asks}
use Rattle.demands.proofs.Lines.{line, line_length, Clear, line_plays, line_digit, line_free, line_solved}
use Rattle.demands.proofs.OneLeft.{solves_one, solves_right}
use Rattle.demands.proofs.Asks.{Asks}

-- the calls for one check after n + 1 moves: the line up to it, the check, and the line undone
unfoldable pub line_calls : ℕ → ℕ → ℕ → ℕ → List Call
line_calls row column digit n = make_all (line row column digit n) ++ (Check row column ∷ replicate (suc n) Undo)

unfoldable pub check_calls : List Asked → List Call
check_calls [] = []
check_calls (c ∷ cs) = line_calls c.row c.column c.digit (c.standing - 1) ++ check_calls cs

-- all calls for a record
unfoldable pub calls_for : List Move → ℕ → List Asked → List Call
calls_for ms undone cs = check_calls cs ++ (make_all ms ++ replicate undone Undo)

-- the record without moves, and so without checks
empty_record : (gs : List Given) (solution : List ℕ) (ms : List Move) (undone : ℕ) (cs : List Asked) → length ms ≡ 0 → length cs ≡ 0 → undone ≡ 0
    → keep (new_book gs solution) (calls_for ms undone cs) ≡ book_of gs solution ms (length ms - undone) (map (judged solution) cs)
unfolding keep new_book book_of calls_for check_calls
empty_record gs solution [] zero [] p q r = refl
empty_record gs solution [] (suc undone) [] p q r = absurd (omega arith)
empty_record gs solution [] undone (c ∷ cs) p q r = absurd (omega arith)
empty_record gs solution (m ∷ ms) undone cs p q r = absurd (omega arith)

module _ (gs : List Given) (solution : List ℕ) (o : Opens gs solution) where
  -- ---- one check

  module _ (row column digit n : ℕ) (on : on_grid row column ≡ true) (free : is_given (opening gs).given (cell_of row column) ≡ false) (range : in_range digit ≡ true)
      (unfinished : both (is_right solution (cell_of row column) digit) (eqb (count (λ cell. not (is_given (opening gs).given cell)) 81 1) 1) ≡ false)
      (room : suc n ≤ max_moves) where
    is : is_cell (cell_of row column) ≡ true
    is = cell_of_is_cell row column on

    clear : Clear (opening gs) (cell_of row column)
    unfolding opening
    clear =
        record {
          unsolved = refl;
          free = free;
          empty = opening_free gs solution o (cell_of row column) is free;
          blank = ap (λ (note : ℕ). contains note 1) (opening_note gs solution o (cell_of row column) is) ∙ contains_zero 1;
          digits_81 = (opening_fit gs solution o).digits_81;
          notes_81 = (opening_fit gs solution o).notes_81;
        }

    -- the line does not solve the board: that would be a right digit where one cell was to play
    not_solved : is_on (perform_all (opening gs) (line row column digit n)).solved ≡ false
    unfolding opening is_right bit
    not_solved =
        ap (λ (x : ℕ). is_on x) (line_solved (opening gs) row column digit n on range clear
        ∙ ap bit (by_test (both (is_full (put (digits_of gs) (cell_of row column) digit)) (is_consistent (put (digits_of gs) (cell_of row column) digit)))
        (λ t. absurd (not_both_ways _
        (both_true _ _
        (eq-eqb (at solution (cell_of row column)) digit (solves_right gs solution o (cell_of row column) digit is free range t))
        (eq-eqb _ 1 (solves_one gs solution o (cell_of row column) digit is free range t)))
        unfinished))
        (λ t. t)))

    whole : take (suc n) (line row column digit n) ≡ line row column digit n
    whole = take_all (suc n) (line row column digit n) (omega (arith, line_length row column digit n))

    -- the digit stands there and is the player's
    players : holds_players_digit (perform_all (opening gs) (line row column digit n)) (cell_of row column) ≡ true
    unfolding holds_players_digit digit_at
    players =
        both_true _ _
        (holds_digit_lem _ (cell_of row column)
        (λ z. omega (arith, z, line_digit (opening gs) row column digit n on range clear, range_from digit range)))
        (ap not (line_free (opening gs) row column digit n on range clear))

    asked_there : (cs : List Stored) → length cs < max_checks
        → step (book_of gs solution (line row column digit n) (suc n) cs) (Check row column)
        ≡ book_of gs solution (line row column digit n) (suc n) (cs ++ (judge solution (suc n) row column digit ∷ []))
    asked_there cs u =
        asks gs solution (line row column digit n) (suc n) cs row column on
        (ap (λ (l : List Move). is_on (perform_all (opening gs) l).solved) whole ∙ not_solved)
        (ap (λ (l : List Move). holds_players_digit (perform_all (opening gs) l) (cell_of row column)) whole ∙ players) u
        ∙ ap (λ (d : ℕ). book_of gs solution (line row column digit n) (suc n) (cs ++ (judge solution (suc n) row column d ∷ [])))
        (ap (λ (l : List Move). digit_at (perform_all (opening gs) l) (cell_of row column)) whole ∙ line_digit (opening gs) row column digit n on range clear)

    one_check : (old : List Move) (cs : List Stored) → length cs < max_checks
        → keep (book_of gs solution old 0 cs) (line_calls row column digit n)
        ≡ book_of gs solution (line row column digit n) 0 (cs ++ (judge solution (suc n) row column digit ∷ []))
    unfolding line_calls keep
    one_check old cs u =
        keep_append (book_of gs solution old 0 cs) (make_all (line row column digit n)) (Check row column ∷ replicate (suc n) Undo)
        ∙ ap (λ (k : Book). keep (step k (Check row column)) (replicate (suc n) Undo))
        (makes_some gs solution (line row column digit n) old cs (line_plays (opening gs) row column digit n on range clear)
        (omega (arith, line_length row column digit n)) (omega (arith, line_length row column digit n))
        ∙ ap (λ (i : ℕ). book_of gs solution (line row column digit n) i cs) (line_length row column digit n))
        ∙ ap (λ (k : Book). keep k (replicate (suc n) Undo)) (asked_there cs u)
        ∙ ap (λ (i : ℕ). keep (book_of gs solution (line row column digit n) i (cs ++ (judge solution (suc n) row column digit ∷ []))) (replicate (suc n) Undo))
        {x = suc n} {y = suc n + 0} (omega arith)
        ∙ undos gs solution (suc n) 0 (line row column digit n) (cs ++ (judge solution (suc n) row column digit ∷ []))
        (λ v i w. on_the_way (opening gs) (line row column digit n) (line_plays (opening gs) row column digit n on range clear) not_solved i)

  -- ---- all checks

  -- the book after some calls: none stands, and these checks are stored
  record Stores (start : Book) (calls : List Call) (cs : List Stored) : Type 0 where
    moves : List Move
    reaches : keep start calls ≡ book_of gs solution moves 0 cs

  one_asked : (old : List Move) (stored : List Stored) (c : Asked) → Asks (given_cells gs) solution c → InTime c → length stored < max_checks
      → keep (book_of gs solution old 0 stored) (line_calls c.row c.column c.digit (c.standing - 1))
      ≡ book_of gs solution (line c.row c.column c.digit (c.standing - 1)) 0 (stored ++ (judged solution c ∷ []))
  unfolding opening
  one_asked old stored c a t u =
      one_check c.row c.column c.digit (c.standing - 1) a.grid a.free a.range a.unfinished (omega (arith, t, a.some)) old stored u
      ∙ ap (λ (n : ℕ). book_of gs solution (line c.row c.column c.digit (c.standing - 1)) 0 (stored ++ (judge solution n c.row c.column c.digit ∷ [])))
      {x = suc (c.standing - 1)} {y = c.standing} (omega (arith, a.some))

  all_asked : (cs : List Asked) (old : List Move) (stored : List Stored) → Each (Asks (given_cells gs) solution) cs → Each InTime cs
      → length stored + length cs ≤ max_checks → Stores (book_of gs solution old 0 stored) (check_calls cs) (stored ++ map (judged solution) cs)
  unfolding check_calls keep Each
  all_asked [] old stored a t u = record { moves = old; reaches = ap (λ (l : List Stored). book_of gs solution old 0 l) (sym (append-nil stored)) }
  all_asked (c ∷ cs) old stored a t u =
      then_more (all_asked cs (line c.row c.column c.digit (c.standing - 1)) (stored ++ (judged solution c ∷ [])) a.1 t.1
      (omega (arith, length-append stored (judged solution c ∷ []))))
    where
      then_more : Stores (book_of gs solution (line c.row c.column c.digit (c.standing - 1)) 0 (stored ++ (judged solution c ∷ []))) (check_calls cs)
          (stored ++ (judged solution c ∷ []) ++ map (judged solution) cs)
          → Stores (book_of gs solution old 0 stored) (check_calls (c ∷ cs)) (stored ++ map (judged solution) (c ∷ cs))
      then_more w =
          record {
            moves = w.moves;
            reaches =
                keep_append (book_of gs solution old 0 stored) (line_calls c.row c.column c.digit (c.standing - 1)) (check_calls cs)
                ∙ ap (λ (k : Book). keep k (check_calls cs)) (one_asked old stored c a.0 t.0 (omega arith))
                ∙ w.reaches
                ∙ ap (λ (l : List Stored). book_of gs solution w.moves 0 l) (append_assoc stored (judged solution c ∷ []) (map (judged solution) cs));
          }

  -- ---- a whole record

  module _ (ms : List Move) (undone : ℕ) (cs : List Asked) (plays : Plays (opening gs) ms) (few : length ms ≤ max_moves) (back : undone ≤ length ms)
      (final : is_on (perform_all (opening gs) ms).solved ≡ true → undone ≡ 0) where
    -- where a move is undone, no position is solved
    all_unsolved : 1 ≤ undone → (i : ℕ) → is_on (perform_all (opening gs) (take i ms)).solved ≡ false
    all_unsolved u =
        on_the_way (opening gs) ms plays
        (by_test (is_on (perform_all (opening gs) ms).solved) (λ t. absurd (omega (arith, final t))) (λ t. t))

    moves_undone : (old : List Move) (stored : List Stored) → 1 ≤ length ms
        → keep (book_of gs solution old 0 stored) (make_all ms ++ replicate undone Undo) ≡ book_of gs solution ms (length ms - undone) stored
    moves_undone old stored some =
        keep_append (book_of gs solution old 0 stored) (make_all ms) (replicate undone Undo)
        ∙ ap (λ (k : Book). keep k (replicate undone Undo))
        (makes_some gs solution ms old stored plays few some
        ∙ ap (λ (n : ℕ). book_of gs solution ms n stored) {x = length ms} {y = undone + (length ms - undone)} (omega arith))
        ∙ undos gs solution undone (length ms - undone) ms stored (λ u i v. all_unsolved u i)

    pub makes_record : Each (Asks (given_cells gs) solution) cs → Each InTime cs → length cs ≤ max_checks → (length ms ≡ 0 → length cs ≡ 0)
        → keep (new_book gs solution) (calls_for ms undone cs) ≡ book_of gs solution ms (length ms - undone) (map (judged solution) cs)
    unfolding new_book book_of calls_for
    makes_record a t u none =
        by_test (eqb (length ms) 0)
        (λ e.
        let z : length ms ≡ 0 = eqb-true (length ms) 0 e in
        empty_record gs solution ms undone cs z (none z) (omega arith))
        (λ e.
        keep_append (new_book gs solution) (check_calls cs) (make_all ms ++ replicate undone Undo)
        ∙ ap (λ (k : Book). keep k (make_all ms ++ replicate undone Undo)) (all_asked cs [] [] a t (omega arith)).reaches
        ∙ moves_undone (all_asked cs [] [] a t (omega arith)).moves (map (judged solution) cs) (omega (arith, eqb-false (length ms) 0 e)))
