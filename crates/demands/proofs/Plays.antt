-- Moves that play: each passes the tests of its call in the state before it. What follows for the
-- moves before and after a place in the list, for the slots that the moves fill, and for the counts.
-- Assumes nothing.
use Prim.Native.Nat.{ℕ, suc, ◌+◌, ◌*◌, ◌≤◌, ◌<◌, min}
use mathlib.Core.Path.{◌≡◌, refl, sym, ap, subst, ◌∙◌}
use mathlib.Core.List.{List, [], ◌∷◌, ◌++◌, append_assoc}
use native.Mathlib.Omega.{arith}
use borrow.Author.Tests.{lt-leb}
use lib.Dec.{leb}
use lib.ListN.{length, take, drop, get_or, length-append, take-append-drop}
use lib.Seq.{drop-cons, take-suc, length-take-le}
use Rattle.sudoku.specs.Tests.{first}
use Rattle.sudoku.proofs.Walks.{pick_false}
use Rattle.journal.specs.declared.Move.{Move}
use Rattle.journal.specs.declared.Move.TheVariants.{Erase}
use Rattle.journal.specs.Limits.{max_moves, slot_bytes}
use Rattle.journal.specs.Counts.{counts, recorded}
use Rattle.journal.specs.State.{State, perform}
use Rattle.journal.specs.Slots.{slot_for, bytes_of}
use Rattle.play.specs.Play.{move_tests}
use Rattle.demands.specs.Book.{perform_all, slots_from}

-- a move passes the tests of its call, 3 to 11
unfoldable pub Passes : State → Move → Type 0
Passes s m = first (move_tests s m) ≡ 0

unfoldable pub Plays : State → List Move → Type 0
Plays s [] = Unit
Plays s (m ∷ ms) = Passes s m × Plays (perform s m) ms

-- move n + 1 of a list
unfoldable pub move_no : List Move → ℕ → Move
move_no ms n = get_or ms n (Erase 0 0)

-- ---- moves in front, and moves after them

pub perform_append : (s : State) (ms ns : List Move) → perform_all s (ms ++ ns) ≡ perform_all (perform_all s ms) ns
unfolding perform_all
perform_append s [] ns = refl
perform_append s (m ∷ ms) ns = perform_append (perform s m) ms ns

pub plays_append : (s : State) (ms ns : List Move) → Plays s ms → Plays (perform_all s ms) ns → Plays s (ms ++ ns)
unfolding perform_all Plays
plays_append s [] ns p q = q
plays_append s (m ∷ ms) ns p q = (p.0, plays_append (perform s m) ms ns p.1 q)

pub plays_front : (s : State) (ms ns : List Move) → Plays s (ms ++ ns) → Plays s ms
unfolding Plays
plays_front s [] ns p = tt
plays_front s (m ∷ ms) ns p = (p.0, plays_front (perform s m) ms ns p.1)

pub plays_rest : (s : State) (ms ns : List Move) → Plays s (ms ++ ns) → Plays (perform_all s ms) ns
unfolding Plays perform_all
plays_rest s [] ns p = p
plays_rest s (m ∷ ms) ns p = plays_rest (perform s m) ms ns p.1

pub slots_append : (s : State) (ms ns : List Move) → slots_from s (ms ++ ns) ≡ slots_from s ms ++ slots_from (perform_all s ms) ns
unfolding slots_from perform_all
slots_append s [] ns = refl
slots_append s (m ∷ ms) ns =
    ap (λ (l : List ℕ). bytes_of (slot_for s m) ++ l) (slots_append (perform s m) ms ns)
    ∙ sym (append_assoc (bytes_of (slot_for s m)) (slots_from (perform s m) ms) (slots_from (perform_all (perform s m) ms) ns))

pub slots_length : (s : State) (ms : List Move) → length (slots_from s ms) ≡ slot_bytes * length ms
unfolding slots_from bytes_of
slots_length s [] = refl
slots_length s (m ∷ ms) = omega (arith, slots_length (perform s m) ms)

-- ---- the first n of them

module _ (s : State) (ms : List Move) (n : ℕ) where
  pub plays_take : Plays s ms → Plays s (take n ms)
  plays_take p = plays_front s (take n ms) (drop n ms) (rw take-append-drop p)

  pub plays_drop : Plays s ms → Plays (perform_all s (take n ms)) (drop n ms)
  plays_drop p = plays_rest s (take n ms) (drop n ms) (rw take-append-drop p)

  -- the next move passes in the state after them
  pub plays_next : n < length ms → Plays s ms → Passes (perform_all s (take n ms)) (move_no ms n)
  unfolding Plays move_no
  plays_next h p = (subst (λ (l : List Move). Plays (perform_all s (take n ms)) l) (drop-cons ms n (Erase 0 0) h) (plays_drop p)).0

  -- the state one move on
  pub perform_next : n < length ms → perform_all s (take (suc n) ms) ≡ perform (perform_all s (take n ms)) (move_no ms n)
  unfolding move_no perform_all
  perform_next h = ap (λ (l : List Move). perform_all s l) (take-suc ms n (Erase 0 0) h) ∙ perform_append s (take n ms) (get_or ms n (Erase 0 0) ∷ [])

  pub slots_in_two : slots_from s ms ≡ slots_from s (take n ms) ++ slots_from (perform_all s (take n ms)) (drop n ms)
  slots_in_two = ap (λ (l : List Move). slots_from s l) (sym (take-append-drop n ms)) ∙ slots_append s (take n ms) (drop n ms)

-- ---- the counts

-- a move behind the first n is one more than n
pub length_one_more : (ms : List Move) (n : ℕ) (m : Move) → n ≤ length ms → length (take n ms ++ (m ∷ [])) ≡ n + 1
length_one_more ms n m h = length-append (take n ms) (m ∷ []) ∙ ap (λ (i : ℕ). i + 1) (length-take-le n ms h)

-- one move recorded below the limit: those after standing are dropped, and one is added
pub recorded_one : (made standing : ℕ) → standing ≤ made → standing < max_moves → recorded (counts made standing) ≡ counts (standing + 1) (standing + 1)
unfolding recorded
recorded_one made standing u h =
    pick_false (leb max_moves standing) _ _ (lt-leb max_moves standing h)
    ∙ ap (λ (n : ℕ). counts (n + 1) (n + 1)) {x = min made standing} {y = standing} (omega arith)
