-- `files::Memory::open_line` meets its contract.
-- Assumes nothing.
use mathlib.Core.Path.{subst, ◌∙◌}
use mathlib.Core.List.{List}
use Prim.Native.Nat.{ℕ}
use Rattle.board.specs.Open.{no_moves, no_checks, open_of, Gives}
use Rattle.lines.specs.Lines.{digits_bytes, values_of}
use Rattle.files.specs.declared.Memory.{Memory}
use Rattle.files.proofs.Loading.{given_apart, line_refused, line_opened}
use Rattle.files.proofs.Memory.open_line.Goals as goal

pub returns-in-Ok : goal.returns-in-Ok
returns-in-Ok c =
    let a = c.args in
    let own = c.open_puzzle-answer.new.self in
    let opens = λ (digits : List ℕ) (m : Memory). Gives (open_of (digits_bytes digits) a.right.now m.journal m.checks) c.open_puzzle-answer.result own.journal own.checks in
    c.take_up.ensures
    ∙ given_apart (open_of (digits_bytes (values_of a.line.now)) a.right.now no_moves no_checks) a.self.now.journal a.self.now.checks _ _ _ (subst (λ (m : Memory). opens (values_of a.line.now) m) c.new-own.ensures (subst (λ (l : List ℕ). opens l c.new-own.result) c.in-Ok.ensures.digits c.open_puzzle-answer.ensures))
    ∙ line_opened a.line.now a.right.now a.self.now.journal a.self.now.checks c.in-Ok.ensures.refusal

pub returns-in-Err : goal.returns-in-Err
returns-in-Err c =
    let a = c.args in
    line_refused a.line.now a.right.now a.self.now.journal a.self.now.checks c.in-Err.error c.in-Err.ensures.refusal
