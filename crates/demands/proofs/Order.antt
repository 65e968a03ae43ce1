-- The order, proved: every theorem about the board, its record and its calls.
-- Assumes nothing.
use Rattle.demands.specs.Order.{Order}
use Rattle.demands.proofs.Solved.{solved_theorem}
use Rattle.demands.proofs.Demand3.{demand3}
use Rattle.demands.proofs.PlayTheorem.{play_theorem}
use Rattle.demands.proofs.Undo.{undo_theorem}
use Rattle.demands.proofs.Readings.{readings}
use Rattle.demands.proofs.Positions.{positions}
use Rattle.demands.proofs.Layouts.{layouts}
use Rattle.demands.proofs.PuzzleLines.{line_theorem}
use Rattle.demands.proofs.Keypad.{keypad_theorem}
use Rattle.demands.proofs.Pencil.{pencil_theorem}

pub order : Order
order =
    record {
      solved = solved_theorem;
      book = demand3;
      calls = play_theorem;
      undo = undo_theorem;
      readings = readings;
      positions = positions;
      layouts = layouts;
      lines = line_theorem;
      keypad = keypad_theorem;
      pencil = pencil_theorem;
    }
