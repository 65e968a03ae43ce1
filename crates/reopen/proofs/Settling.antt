-- What reopening answers, part by part: where the record is not read, where a move is refused,
-- where the board is solved and moves are undone, where a check is refused, and where nothing is.
-- Assumes nothing.
use Prim.Native.Nat.{ℕ, zero, suc, ◌-◌, ◌*◌, ◌≤◌}
use mir.Syntax.{w8}
use mir.Val.{Fits}
use mathlib.Core.Path.{◌≡◌, refl, sym, ap, subst, ◌∙◌}
use mathlib.Core.Bool.{Bool, true, false, not}
use mathlib.Core.List.{List}
use native.Mathlib.Omega.{arith}
use borrow.Author.Tests.{eqb-true, eqb-false, eq-eqb, ne_eqb}
use lib.Dec.{eqb}
use lib.ListN.{length, get_or, replicate, length-replicate}
use Rattle.sudoku.specs.Tests.{first, pick, both}
use Rattle.sudoku.proofs.Walks.{both_left, both_right, pick_true, pick_false}
use Rattle.sudoku.proofs.Each.{Each}
use Rattle.puzzle.specs.declared.Layout.TheVariants.{Items}
use Rattle.puzzle.specs.declared.Refusal.{Refusal}
use Rattle.puzzle.specs.Refusals.{refusal, accepted, is_accepted, refused_if, or_else}
use Rattle.puzzle.specs.Givens.{is_on}
use Rattle.puzzle.specs.Code.GivenBytes.{givens_in}
use Rattle.std.specs.Prelude.{Ok, Err}
use Rattle.puzzle.proofs.Accepted.{accepts, if_not, or_else_left, or_else_right}
use Rattle.puzzle.proofs.Refusals.{refused_if_lem, or_else_by, or_else_past}
use Rattle.journal.specs.Limits.{max_moves, max_checks, journal_bytes, check_memory, check_item_bytes, given_item_bytes}
use Rattle.journal.specs.Bytes.{over}
use Rattle.board.specs.declared.Answer.{Answer}
use Rattle.board.specs.declared.Board.{Board}
use Rattle.board.specs.Board.{state_of, counts_of, board_of, moved, fresh, zero_board}
use Rattle.board.specs.Open.{answer, Opened, Gives, no_moves, no_checks, lent_lengths, wrong_length, turned_away}
use Rattle.play.specs.Play.{Played, slot_refusal, undo_tests, undone, undo_of}
use Rattle.journal.specs.Slots.{slot_at, move_of}
use Rattle.journal.proofs.Moves.{given_kept_back}
use Rattle.journal.specs.declared.Asked.{Asked}
use Rattle.record.specs.declared.Scanned.{Scanned}
use Rattle.record.specs.Items.{Parts, record_of}
use Rattle.record.specs.Scan.{malformed, parts_of_bytes}
use Rattle.record.specs.declared.error.ReopenError.{ReopenError}
use Rattle.record.specs.Errors.{reopen_refusal}
use Rattle.record.specs.Reopen.{oversized, unreadable, replay, take_back_all, to_play, checks_refusal, reopened, settled_record, replayed, reopen_of}
use Rattle.record.specs.Code.Counting.{counts_of as counts_in}
use Rattle.reopen.specs.Code.Reopening.{moves_at, asks_at, settled_by, reopened_of, Reopens}
use Rattle.record.proofs.WriteBack.{IsByte, bytes_record, bytes_fit, checks_fit}
use Rattle.record.proofs.Readable.{formed, sized, Sized}
use Rattle.record.proofs.ReadRecord.{givens_read}
use Rattle.reopen.proofs.PartsRead.{givens_fit, moves_stand, asks_stand, checks_fit as asks_fit}
use Rattle.reopen.proofs.Checking.{stored_of, to_play_same, checks_same}

-- ---- answers

module _ (o : Opened) (j c : List ℕ) where
  pub reopens_refused : (e : ReopenError) → o ≡ turned_away (reopen_refusal e) → Reopens o (Err e) j c
  unfolding turned_away
  reopens_refused e q = record { refusal = sym (ap (λ (y : Opened). y.answer.refusal) q); rest = tt }

  pub reopens_given : (b : Board) → Gives o (answer accepted b) j c → Reopens o (Ok b) j c
  reopens_given b g = record { refusal = ap (λ (x : Answer). x.refusal) g.answer; rest = g }

pub no_moves_length : length no_moves ≡ journal_bytes
unfolding no_moves
no_moves_length = length-replicate {A = ℕ} journal_bytes 0

pub no_checks_length : length no_checks ≡ check_memory
unfolding no_checks
no_checks_length = length-replicate {A = ℕ} check_memory 0

-- ---- moves taken back

unfoldable Kept : Board → Answer → Type 0
Kept b a = (a.board.given ≡ b.given) × (a.board.solution ≡ b.solution)

kept_pick : (b : Board) (t : Bool) (x y : Answer) → Kept b x → Kept b y → Kept b (pick t x y)
unfolding pick
kept_pick b true x y h g = h
kept_pick b false x y h g = g

undo_kept : (b : Board) (journal : List ℕ) → Kept b (undo_of b journal)
unfolding Kept undo_of undone moved board_of state_of
undo_kept b journal =
    kept_pick b (eqb (first (undo_tests b journal)) 0) (answer accepted (undone b (slot_at journal b.standing)))
    (answer (slot_refusal (first (undo_tests b journal)) b.standing) b)
    (given_kept_back (state_of b) (move_of (slot_at journal b.standing)) (slot_at journal b.standing).before (slot_at journal b.standing).struck, refl)
    (refl, refl)

back_kept : (n : ℕ) (b : Board) (journal : List ℕ) → ((take_back_all n b journal).given ≡ b.given) × ((take_back_all n b journal).solution ≡ b.solution)
unfolding take_back_all Kept
back_kept zero b journal = (refl, refl)
back_kept (suc n) b journal =
    let r = back_kept n (undo_of b journal).board journal in
    let u = undo_kept b journal in
    (r.0 ∙ u.0, r.1 ∙ u.1)

-- ---- 30 to 33

module _ (undone : ℕ) (cs : List Asked) (b : Board) (journal : List ℕ) where
  abbrev late : Bool
  late = both (is_on b.solved) (not (eqb undone 0))

  pub settled_30 : late ≡ true → settled_by undone cs b journal ≡ turned_away (refusal 30 0 0)
  unfolding settled_by settled_record is_accepted
  settled_30 t =
      let e = or_else_by _ (checks_refusal b (to_play b) 1 cs) (refusal 30 0 0) (refused_if_lem late (refusal 30 0 0) t) (eqb-false 30 0 refl) in
      pick_false _ _ _ (ap is_accepted e) ∙ ap turned_away e

  module _ (t : late ≡ false) (back : Board) (e : back ≡ take_back_all undone b journal) (r : Refusal) (w : r ≡ checks_refusal back (to_play back) 1 cs) where
    same_given : b.given ≡ back.given
    same_given = sym (ap (λ (x : Board). x.given) e ∙ (back_kept undone b journal).0)

    same_solution : b.solution ≡ back.solution
    same_solution = sym (ap (λ (x : Board). x.solution) e ∙ (back_kept undone b journal).1)

    decides : or_else (refused_if late (refusal 30 0 0)) (checks_refusal b (to_play b) 1 cs) ≡ r
    decides =
        or_else_past _ _ (if_not late (refusal 30 0 0) t)
        ∙ ap (λ (n : ℕ). checks_refusal b n 1 cs) (to_play_same b back same_given same_solution)
        ∙ checks_same b back same_given same_solution (to_play back) 1 cs
        ∙ sym w

    pub settled_refused : (r.number ≡ 0 → ⊥) → settled_by undone cs b journal ≡ turned_away r
    unfolding settled_by settled_record is_accepted
    settled_refused n = pick_false _ _ _ (ap is_accepted decides ∙ ne_eqb r.number 0 n) ∙ ap turned_away decides

    pub settled_ok : r.number ≡ 0 → settled_by undone cs b journal ≡ reopened back journal cs
    unfolding settled_by settled_record is_accepted
    settled_ok n =
        pick_true _ _ _ (ap is_accepted decides ∙ eq-eqb r.number 0 n) ∙ ap (λ (x : Board). reopened x journal cs) (sym e)

    -- the answer, and the memory
    pub settled_gives : r.number ≡ 0 → (a : Refusal) (count : ℕ) (checks : List ℕ) → a ≡ accepted → count ≡ length cs
        → checks ≡ over no_checks 0 (stored_of back.solution cs)
        → Gives (settled_by undone cs b journal) (answer a (board_of (state_of back) back.solution (counts_of back) count)) journal checks
    unfolding reopened
    settled_gives n a count checks p q s =
        let o = settled_ok n in
        record {
          answer =
              (λ j. answer (p j) (board_of (state_of back) back.solution (counts_of back) (q j)))
              ∙ sym (ap (λ (x : Opened). x.answer) o);
          journal = sym (ap (λ (x : Opened). x.journal) o);
          checks = s ∙ sym (ap (λ (x : Opened). x.checks) o);
        }

-- ---- 17 to 29

pub unread : (bytes solution : List ℕ) (r : Refusal) → r ≡ unreadable bytes solution → (r.number ≡ 0 → ⊥) → reopened_of bytes solution ≡ turned_away r
unfolding reopened_of is_accepted
unread bytes solution r e n =
    pick_false _ _ _ (ap is_accepted (sym e) ∙ ne_eqb r.number 0 n) ∙ ap turned_away (sym e)

module _ (bytes solution : List ℕ) (well : accepted ≡ unreadable bytes solution) (s : Scanned) (counts : s ≡ counts_in (parts_of_bytes bytes)) (fit : (i : ℕ) → Fits w8 (get_or bytes i 0)) where
  are : Each IsByte bytes
  are = bytes_fit bytes fit

  abbrev parts : Parts
  parts = parts_of_bytes bytes

  is_read : is_accepted (unreadable bytes solution) ≡ true
  is_read = accepts _ (sym well)

  -- a scan of a record that is read is refused by nothing
  read_17 : is_accepted (malformed bytes) ≡ true
  unfolding unreadable
  read_17 = or_else_left (malformed bytes) _ is_read

  form : malformed bytes ≡ accepted
  form = formed bytes read_17

  within : Sized parts
  unfolding unreadable
  within = sized parts (or_else_left (oversized parts) _ (or_else_right (malformed bytes) _ is_read))

  whole : record_of parts ≡ bytes
  whole = bytes_record bytes are form

  pub few_moves : s.moves ≤ max_moves
  unfolding counts_in
  few_moves = omega (arith, ap (λ (x : Scanned). x.moves) counts, within.moves)

  pub few_checks_lem : s.checks ≤ max_checks
  unfolding counts_in
  few_checks_lem = omega (arith, ap (λ (x : Scanned). x.checks) counts, within.checks)

  pub givens_inside : given_item_bytes * s.givens ≤ length bytes
  unfolding counts_in
  givens_inside = omega (arith, ap (λ (x : Scanned). x.givens) counts, givens_fit parts bytes whole)

  pub checks_inside : check_item_bytes * s.checks ≤ length bytes
  unfolding counts_in
  checks_inside = omega (arith, ap (λ (x : Scanned). x.checks) counts, asks_fit parts bytes whole)

  givens_here : givens_in Items bytes s.givens ≡ parts.givens
  unfolding counts_in
  givens_here = ap (λ (x : Scanned). givens_in Items bytes x.givens) counts ∙ givens_read bytes are form

  moves_here : moves_at bytes (given_item_bytes * s.givens) s.moves ≡ parts.moves
  unfolding counts_in
  moves_here = ap (λ (x : Scanned). moves_at bytes (given_item_bytes * x.givens) x.moves) counts ∙ moves_stand parts bytes whole

  asks_here : asks_at bytes (length bytes - check_item_bytes * s.checks) s.checks ≡ parts.checks
  unfolding counts_in
  asks_here =
      ap (λ (x : Scanned). asks_at bytes (length bytes - check_item_bytes * x.checks) x.checks) counts
      ∙ asks_stand parts bytes whole (checks_fit bytes are form)

  module _
      (b : Board)
      (w : b ≡ fresh (givens_in Items bytes s.givens) solution)
      (memory : List ℕ)
      (none : memory ≡ no_moves) where
    pub none_stand : b.standing ≡ 0
    unfolding fresh board_of
    none_stand = ap (λ (x : Board). x.standing) w

    abbrev all : Played
    all = replay (fresh parts.givens solution) no_moves 1 parts.moves

    plays : replay b memory 1 (moves_at bytes (given_item_bytes * s.givens) s.moves) ≡ all
    plays = λ j. replay ((w ∙ (λ i. fresh (givens_here i) solution)) j) (none j) 1 (moves_here j)

    opens : reopened_of bytes solution
        ≡ pick (is_accepted all.answer.refusal) (settled_record parts all.answer.board all.journal) (turned_away all.answer.refusal)
    unfolding reopened_of replayed
    opens = pick_true _ _ _ is_read

    pub unplayed : (r : Refusal) → r ≡ (replay b memory 1 (moves_at bytes (given_item_bytes * s.givens) s.moves)).answer.refusal → (r.number ≡ 0 → ⊥)
        → reopened_of bytes solution ≡ turned_away r
    unfolding is_accepted
    unplayed r p n =
        let e = p ∙ ap (λ (x : Played). x.answer.refusal) plays in
        opens ∙ pick_false _ _ _ (ap is_accepted (sym e) ∙ ne_eqb r.number 0 n) ∙ ap turned_away (sym e)

    pub plays_on : accepted ≡ (replay b memory 1 (moves_at bytes (given_item_bytes * s.givens) s.moves)).answer.refusal
        → (last : Board) (out : List ℕ)
        → (last ≡ (replay b memory 1 (moves_at bytes (given_item_bytes * s.givens) s.moves)).answer.board)
        × (out ≡ (replay b memory 1 (moves_at bytes (given_item_bytes * s.givens) s.moves)).journal)
        → reopened_of bytes solution ≡ settled_by s.undone (asks_at bytes (length bytes - check_item_bytes * s.checks) s.checks) last out
    unfolding settled_by settled_record counts_in
    plays_on p last out q =
        opens
        ∙ pick_true _ _ _ (accepts _ (sym (p ∙ ap (λ (x : Played). x.answer.refusal) plays)))
        ∙ (λ j.
        settled_by (sym counts j).undone (sym asks_here j) (sym (q.0 ∙ ap (λ (x : Played). x.answer.board) plays) j) (sym (q.1 ∙ ap (λ (x : Played). x.journal) plays) j))

-- ---- what is refused leaves nothing

unfoldable Cleared : Opened → Type 0
Cleared o = (o.answer.refusal.number ≡ 0 → ⊥) → o ≡ turned_away o.answer.refusal

cleared_pick : (t : Bool) (o p : Opened) → Cleared o → Cleared p → Cleared (pick t o p)
unfolding pick
cleared_pick true o p h g = h
cleared_pick false o p h g = g

cleared_away : (r : Refusal) → Cleared (turned_away r)
unfolding Cleared turned_away
cleared_away r n = refl

cleared_done : (back : Board) (journal : List ℕ) (cs : List Asked) → Cleared (reopened back journal cs)
unfolding Cleared reopened
cleared_done back journal cs n = absurd (n refl)

cleared_settled : (p : Parts) (b : Board) (journal : List ℕ) → Cleared (settled_record p b journal)
unfolding settled_record
cleared_settled p b journal = cleared_pick _ _ _ (cleared_done _ _ _) (cleared_away _)

all_cleared : (bytes solution : List ℕ) → Cleared (reopened_of bytes solution)
unfolding reopened_of replayed
all_cleared bytes solution =
    cleared_pick _ _ _ (cleared_pick _ _ _ (cleared_settled _ _ _) (cleared_away _)) (cleared_away _)

pub reopened_cleared : (bytes solution : List ℕ) → ((reopened_of bytes solution).answer.refusal.number ≡ 0 → ⊥)
    → reopened_of bytes solution ≡ turned_away (reopened_of bytes solution).answer.refusal
unfolding Cleared
reopened_cleared bytes solution = all_cleared bytes solution

-- ---- the whole

module _ (bytes solution journal checks : List ℕ) where
  pub wrong_lent : (a : Answer) → lent_lengths solution journal checks ≡ false → a ≡ answer (refusal 1 0 0) zero_board
      → Gives (reopen_of bytes solution journal checks) a journal checks
  unfolding reopen_of wrong_length
  wrong_lent a t p =
      let e : reopen_of bytes solution journal checks ≡ wrong_length journal checks = pick_false (lent_lengths solution journal checks) _ _ t in
      record {
        answer = p ∙ sym (ap (λ (x : Opened). x.answer) e);
        journal = sym (ap (λ (x : Opened). x.journal) e);
        checks = sym (ap (λ (x : Opened). x.checks) e);
      }

  module _ (l : lent_lengths solution journal checks ≡ true) where
    lengths : (length journal ≡ journal_bytes) × (length checks ≡ check_memory) × (length solution ≡ 81)
    unfolding lent_lengths
    lengths =
        let on = both_right (eqb (length journal) journal_bytes) _ l in
        (eqb-true _ _ (both_left _ _ l), eqb-true _ _ (both_left _ _ on), eqb-true _ _ (both_right (eqb (length checks) check_memory) _ on))

    pub solution_length : length solution ≡ 81
    solution_length = lengths.2

    pub journal_zero : (n : ℕ) (out : List ℕ) → n ≡ length journal → out ≡ replicate n 0 → out ≡ no_moves
    unfolding no_moves
    journal_zero n out p e = e ∙ ap (λ (k : ℕ). replicate k 0) (p ∙ lengths.0)

    pub checks_zero : (n : ℕ) (out : List ℕ) → n ≡ length checks → out ≡ replicate n 0 → out ≡ no_checks
    unfolding no_checks
    checks_zero n out p e = e ∙ ap (λ (k : ℕ). replicate k 0) (p ∙ lengths.1)

    lent_opens : reopen_of bytes solution journal checks ≡ reopened_of bytes solution
    unfolding reopen_of reopened_of
    lent_opens = pick_true (lent_lengths solution journal checks) _ _ l

    pub lent_refused : (r : Refusal) → r ≡ (reopened_of bytes solution).answer.refusal → (r.number ≡ 0 → ⊥) → (b : Board) (j c : List ℕ) → b ≡ zero_board → j ≡ no_moves → c ≡ no_checks
        → Gives (reopen_of bytes solution journal checks) (answer r b) j c
    unfolding turned_away
    lent_refused x e n b j c p q r =
        let away = lent_opens ∙ reopened_cleared bytes solution (λ z. n (ap (λ (y : Refusal). y.number) e ∙ z)) in
        record {
          answer = (λ i. answer (e i) (p i)) ∙ sym (ap (λ (y : Opened). y.answer) away);
          journal = q ∙ sym (ap (λ (y : Opened). y.journal) away);
          checks = r ∙ sym (ap (λ (y : Opened). y.checks) away);
        }

    pub lent_given : (a : Answer) (j c : List ℕ) → Gives (reopened_of bytes solution) a j c → Gives (reopen_of bytes solution journal checks) a j c
    lent_given a j c g = subst (λ (o : Opened). Gives o a j c) (sym lent_opens) g
