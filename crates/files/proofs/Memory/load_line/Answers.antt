-- `files::Memory::load_line` meets its contract: where the solution's line is none, all stays.
-- Assumes nothing.
use Rattle.files.proofs.Loading.{solution_refused}
use Rattle.files.proofs.Memory.load_line.Goals as goal

pub returns-in-Err : goal.returns-in-Err
returns-in-Err c =
    let a = c.args in
    solution_refused a.line.now a.solution.now a.self.now.journal a.self.now.checks c.in-Err.error c.in-Err.ensures.refusal
