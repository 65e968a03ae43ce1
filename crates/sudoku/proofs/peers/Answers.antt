-- `sudoku::peers` meets its contract. The table's rule is one test, every (rule table) 81 1,
-- which antt computes over all of its 81 rows: `refl`.
-- Assumes nothing.
use mathlib.Core.Path.{◌≡◌, refl, sym, ◌∙◌}
use mathlib.Core.Bool.{true}
use Rattle.sudoku.specs.declared.table.TheConstants.{PEERS}
use Rattle.sudoku.specs.Tests.{every, among, keep, both, either}
use Rattle.sudoku.specs.Grid.{are_peers, is_peer_of, row_of, column_of, box_index}
use Rattle.sudoku.proofs.Grid.{peers_off}
use Rattle.sudoku.proofs.PeerTable.{rule, same, table_peers}
use Rattle.sudoku.proofs.peers.Goals as goal

-- the one computed test
lawful : every (rule PEERS) 81 1 ≡ true
unfolding rule same every among keep are_peers is_peer_of row_of column_of box_index both either
lawful = refl

pub returns-then-is_cell : goal.returns-then-is_cell
returns-then-is_cell c = table_peers PEERS c.args.cell lawful (sym c.is_cell.ensures ∙ c.if-is_cell.true)

pub returns-else-is_cell : goal.returns-else-is_cell
returns-else-is_cell c = sym (peers_off c.args.cell (sym c.is_cell.ensures ∙ c.if-is_cell.false))
