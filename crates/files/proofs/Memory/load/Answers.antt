-- `files::Memory::load` meets its contract: the files hold what was read.
-- Assumes nothing.
use mathlib.Core.Path.{ap, sym, ◌∙◌}
use Rattle.std.specs.Prelude.{Option}
use Rattle.board.specs.declared.Board.{Board}
use Rattle.files.specs.Disk.{unread}
use Rattle.files.specs.Load.{left, stays, name_of}
use Rattle.files.proofs.Loading.{by_hand, no_solution, by_file, none_named, some_named}
use Rattle.files.proofs.Memory.load.Goals as goal

pub returns-in-None : goal.returns-in-None
returns-in-None g c =
    let a = c.args in
    let w = c.load_with.ensures in
    record {
      file = w.file;
      answers = unread;
      is = w.is ∙ by_hand (name_of a.solution) a.at_hand.now a.self.now.journal a.self.now.checks w.file unread (none_named a.solution c.named.result c.named.ensures.same c.in-None.is);
    }

pub returns-in_err-right-in-Some : goal.returns-in_err-right-in-Some
unfolding stays
returns-in_err-right-in-Some g c =
    let a = c.args in
    let s = c.in_err-right-in-Some.ensures in
    record {
      file = unread;
      answers = s.file;
      is =
          ap (λ (b : Option Board). left b a.self.now.journal a.self.now.checks) c.from_residual.ensures
          ∙ no_solution (name_of a.solution) a.at_hand.now a.self.now.journal a.self.now.checks unread s.file (some_named a.solution c.named.result c.named.ensures.same c.named.ensures.named c.in-Some.solution c.in-Some.is) (sym s.are);
    }

pub returns-in_ok-right-in-Some : goal.returns-in_ok-right-in-Some
returns-in_ok-right-in-Some g c =
    let a = c.args in
    let s = c.in_ok-right-in-Some.ensures in
    let w = c.load_with-in-Some.ensures in
    record {
      file = w.file;
      answers = s.file;
      is =
          w.is
          ∙ by_file (name_of a.solution) a.at_hand.now a.self.now.journal a.self.now.checks w.file s.file (some_named a.solution c.named.result c.named.ensures.same c.named.ensures.named c.in-Some.solution c.in-Some.is) c.in_ok-right-in-Some.right (sym s.are);
    }
