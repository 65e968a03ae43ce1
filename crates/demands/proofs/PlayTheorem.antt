-- Demand 3 of bytes, proved: the run of bytes that encode calls is the run of the calls, and demand 3 speaks of that.
-- Assumes nothing.
use Prim.Native.Nat.{ℕ, ◌*◌, ◌≤◌}
use mathlib.Core.Path.{◌≡◌, sym, ap, subst, ◌∙◌}
use mathlib.Core.List.{List, map}
use lib.ListN.{length}
use Rattle.std.specs.Prelude.{Some}
use Rattle.journal.specs.Bytes.{over}
use Rattle.board.specs.Open.{opened_fresh}
use Rattle.calls.specs.declared.Call.{Call}
use Rattle.calls.specs.Session.{Session, Said, started}
use Rattle.calls.specs.Encoded.{call_bytes, decoded, answers_bytes, Ran, run_of}
use Rattle.calls.proofs.Coding.{run_calls, decoded_encoded}
use Rattle.demands.specs.Book.{Book, new_book, keep}
use Rattle.demands.specs.Demand3.{Kept, PlaysAs}
use Rattle.demands.specs.PlayTheorem.{RanAsBook, PlayTheorem}
use Rattle.demands.proofs.Lists.{of_book}
use Rattle.demands.proofs.Demand3.{demand3, plays_as}

-- where calls go as in a book, the bytes that encode them do
ran_as_book : (s : Session) (k : Book) (calls : List Call) (bytes answers : List ℕ) → PlaysAs s k calls → decoded bytes ≡ map Some calls
    → call_bytes * length calls ≤ length answers → RanAsBook (run_of s bytes answers) k calls answers
ran_as_book s k calls bytes answers plays p h =
    let e = run_calls s bytes answers calls p h in
    record {
      answered = ap (λ (x : Ran). x.answers) e ∙ ap (λ (l : List Said). over answers 0 (answers_bytes l)) plays.answered;
      kept = subst (λ (x : Ran). Kept x.left (keep k calls)) (sym e) plays.kept;
    }

pub play_theorem : PlayTheorem
play_theorem =
    record {
      played =
          λ givens solution calls bytes answers o.
          ran_as_book (started (opened_fresh givens solution)) (new_book givens solution) calls bytes answers (demand3.played givens solution calls o);
      reached =
          λ s r calls bytes answers.
          of_book s r (λ (x : Session) (k : Book). decoded bytes ≡ map Some calls → call_bytes * length calls ≤ length answers → RanAsBook (run_of x bytes answers) k calls answers)
          (λ k journal checks g h. ran_as_book _ k calls bytes answers (plays_as k journal checks calls g h));
      every_list = decoded_encoded;
    }
