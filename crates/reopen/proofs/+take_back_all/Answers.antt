-- `reopen::take_back_all` takes back one move and then one less.
-- Assumes nothing.
use Prim.Native.Nat.{ℕ, suc, ◌-◌}
use mathlib.Core.Path.{◌≡◌, sym, ap, ◌∙◌}
use native.Mathlib.Omega.{arith}
use Rattle.board.specs.declared.Board.{Board}
use Rattle.record.specs.Reopen.{take_back_all}
use Rattle.reopen.proofs.+take_back_all.Goals as goal

pub returns-then-n-eq0 : goal.returns-then-n-eq0
unfolding take_back_all
returns-then-n-eq0 t c =
    let a = c.args in
    sym (ap (λ (n : ℕ). take_back_all n a.board.now a.journal.now.now) c.if-n-eq0.true)

pub returns : goal.returns
unfolding take_back_all
returns t c =
    let a = c.args in
    let one : suc (a.n - 1) ≡ a.n = omega arith in
    c.take_back_all.ensures
    ∙ ap (λ (b : Board). take_back_all (a.n - 1) b a.journal.now.now) c.take_back.ensures
    ∙ ap (λ (n : ℕ). take_back_all n a.board.now a.journal.now.now) one
