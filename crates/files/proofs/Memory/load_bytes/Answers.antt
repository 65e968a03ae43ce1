-- `files::Memory::load_bytes` meets its contract.
-- Assumes nothing.
use mathlib.Core.Path.{sym, subst, ◌∙◌}
use Rattle.sudoku.proofs.Walks.{pick_true}
use Rattle.board.specs.Open.{no_moves, no_checks, Gives}
use Rattle.files.specs.declared.Memory.{Memory}
use Rattle.files.specs.Load.{open_bytes, open_apart, load_bytes}
use Rattle.files.proofs.Loading.{given_apart}
use Rattle.files.proofs.Memory.load_bytes.Goals as goal

pub returns : goal.returns
unfolding load_bytes open_apart
returns c =
    let a = c.args in
    let own = c.open_bytes-answer.new.self in
    let gives = subst (λ (m : Memory). Gives (open_bytes a.bytes.now a.right.now m.journal m.checks) c.open_bytes-answer.result own.journal own.checks) c.new-own.ensures c.open_bytes-answer.ensures in
    c.take_up.ensures
    ∙ given_apart (open_bytes a.bytes.now a.right.now no_moves no_checks) a.self.now.journal a.self.now.checks _ _ _ gives
    ∙ sym (pick_true _ _ _ (sym c.is_openable.ensures ∙ c.if-not-is_openable.false))
