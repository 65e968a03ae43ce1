-- `board::open::opened` meets its contract: the triples are the givens in their
-- layout, and the nine rows, laid out again, are the solution of 81 bytes.
-- Assumes nothing.
use Rattle.puzzle.proofs.Rows.{laid_out}
use Rattle.board.proofs.Opening.{posed_fresh, posed_refused}
use Rattle.board.proofs.open.opened.Goals as goal

pub returns-in-Ok : goal.returns-in-Ok
returns-in-Ok c =
    let a = c.args in
    let laid = laid_out c.rows_of-rows.result a.solution.now c.rows_of-rows.ensures c.requires in
    rw (c.accepted.ensures, c.fresh.ensures, laid) (posed_fresh a.givens.now a.solution.now (rw laid at c.in-Ok.ensures))

pub returns-in-Err : goal.returns-in-Err
returns-in-Err c =
    let a = c.args in
    let laid = laid_out c.rows_of-rows.result a.solution.now c.rows_of-rows.ensures c.requires in
    rw (c.into.ensures, c.zero_board.ensures) (posed_refused a.givens.now a.solution.now c.in-Err.e (rw laid at c.in-Err.ensures))
