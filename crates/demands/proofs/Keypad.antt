-- The keypad's theorem, proved: the laws of crate puzzle, that of solved boards, and rows that compute.
-- Assumes nothing.
use mathlib.Core.Path.{refl}
use native.Mathlib.Omega.{arith}
use Rattle.sudoku.proofs.Grid.{range_from}
use Rattle.puzzle.proofs.Clear.{at_most_nine, left_exact}
use Rattle.puzzle.proofs.Grey.{grey, all_grey}
use Rattle.puzzle.proofs.ClearPut.{left_put, left_put_other}
use Rattle.demands.specs.Keypad.{clear_peers, no_digits, fives_g, two_in_a_row, KeypadRows, KeypadTheorem}
use Rattle.demands.proofs.Computing.{computing}
use Rattle.demands.proofs.Solved.{solved_theorem}

keypad_rows : KeypadRows
unfolding computing no_digits fives_g two_in_a_row
keypad_rows =
    record {
      nothing = refl;
      one = refl;
      solved = refl;
      nine = refl;
      nine_with_a_clash = refl;
      beside = refl;
      two_at_once = refl;
      third = refl;
      key_0 = refl;
    }

pub keypad_theorem : KeypadTheorem
unfolding clear_peers
keypad_theorem =
    record {
      at_most_nine = at_most_nine;
      exact = left_exact;
      grey = λ digits d r. grey digits d (λ z. omega (arith, range_from d r, z));
      all_grey = all_grey;
      solved = λ s r. (
        (λ t. (all_grey s.board.digits).1 ((solved_theorem.reached s r).0 t)),
        (λ e. (solved_theorem.reached s r).1 ((all_grey s.board.digits).0 e)),
      );
      own = λ digits cell d long p empty r. left_put digits cell d long p empty (λ z. omega (arith, range_from d r, z));
      other = λ digits cell d e long p empty h. left_put_other digits cell d long p empty e h;
      rows = keypad_rows;
    }
