-- The rows of lines hold: each computes.
-- Assumes nothing.
use mathlib.Core.Path.{refl}
use Rattle.demands.specs.PuzzleLines.{bytes_in, line_a, line_g, room, LineRows}
use Rattle.demands.proofs.Computing.{computing}

pub line_rows : LineRows
unfolding computing bytes_in line_a line_g room
line_rows =
    record {
      reads = refl;
      line_feed = refl;
      dots = refl;
      comes_back = refl;
      opens = refl;
      no_characters = refl;
      eighty = refl;
      eighty_two = refl;
      carriage_return = refl;
      both_ends = refl;
      two_feeds = refl;
      feed_as_81 = refl;
      first_of_two = refl;
      below_0 = refl;
      above_9 = refl;
      too_short = refl;
      before_36 = refl;
      just_long_enough = refl;
      write_too_short = refl;
      write_long_enough = refl;
      no_board = refl;
      before_34 = refl;
    }
