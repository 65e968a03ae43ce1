-- What a command leaves, by its verb.
-- Assumes nothing.
use Rattle.std.proofs.Common.{◌≡◌, ℕ, true, false, List, [], Bor, Option, None, refl, sym, ap, subst, ◌∙◌}
use Rattle.sudoku.specs.Tests.{pick, both}
use Rattle.sudoku.proofs.Walks.{pick_true, pick_false}
use Rattle.calls.specs.declared.Call.{Call}
use Rattle.calls.specs.Session.{Session, called}
use Rattle.calls.specs.Encoded.{run_one}
use Rattle.texts.specs.declared.Verb.{Verb}
use Rattle.texts.specs.declared.Verb.TheVariants as verb
use Rattle.texts.specs.declared.Words.{Words}
use Rattle.texts.specs.declared.Words.TheVariants as words
use Rattle.texts.specs.Commands.{Request, request, said}
use Rattle.files.specs.Disk.{unread}
use Rattle.commands.specs.Perform.{is_move, is_undo, is_check, is_open, is_puzzle, named_move, undo_call, check_call, command_call, open_leaves, puzzle_leaves, command_leaves, Opens, Performs}

-- a command that looks at no file
module _ (c : Request) (before after : Session) where
  reads_none : after ≡ command_leaves c unread unread before → Performs c before after
  reads_none e = record { file = unread; answers = unread; leaves = e }

  by_call : (d : Option Call) → is_open c.verb ≡ false → is_puzzle c.verb ≡ false → command_call c ≡ d → after ≡ (run_one before d).left → Performs c before after
  unfolding command_leaves
  by_call d o z e is =
      reads_none (is ∙ sym (pick_false _ _ _ o ∙ pick_false _ _ _ z ∙ ap (λ (x : Option Call). (run_one before x).left) e))

  pub by_move : (v : Verb) → is_move v ≡ true → is_open v ≡ false → is_puzzle v ≡ false → after ≡ (run_one before (named_move c)).left → c.verb ≡ v → Performs c before after
  unfolding command_call named_move
  by_move v m o z is e =
      let move = ap is_move e ∙ m in
      by_call (named_move c) (ap is_open e ∙ o) (ap is_puzzle e ∙ z) (pick_true _ _ _ move ∙ sym (pick_true _ _ _ move)) is

  pub by_undo : (v : Verb) → is_move v ≡ false → is_undo v ≡ true → is_open v ≡ false → is_puzzle v ≡ false → after ≡ (run_one before (undo_call c)).left → c.verb ≡ v → Performs c before after
  unfolding command_call
  by_undo v m u o z is e =
      by_call (undo_call c) (ap is_open e ∙ o) (ap is_puzzle e ∙ z)
      (pick_false _ _ _ (ap is_move e ∙ m) ∙ pick_true _ _ _ (ap is_undo e ∙ u))
      is

  pub by_check : after ≡ (run_one before (check_call c)).left → c.verb ≡ verb.Check → Performs c before after
  unfolding command_call is_move is_undo is_check is_open is_puzzle
  by_check is e =
      by_call (check_call c) (ap is_open e) (ap is_puzzle e)
      (pick_false _ _ _ (ap is_move e) ∙ pick_false _ _ _ (ap is_undo e) ∙ pick_true _ _ _ (ap is_check e))
      is

  pub by_open : Opens c before after → c.verb ≡ verb.Open → Performs c before after
  unfolding command_leaves is_open
  by_open o e =
      record { file = o.file; answers = o.answers; leaves = o.leaves ∙ sym (pick_true _ _ _ (ap is_open e)) }

  pub by_puzzle : after ≡ puzzle_leaves c before → c.verb ≡ verb.Puzzle → Performs c before after
  unfolding command_leaves is_open is_puzzle
  by_puzzle is e = reads_none (is ∙ sym (pick_false _ _ _ (ap is_open e) ∙ pick_true _ _ _ (ap is_puzzle e)))

-- a command that names no call leaves all as it was
module _ (c : Request) (s : Session) where
  pub by_none : is_move c.verb ≡ false → is_undo c.verb ≡ false → is_check c.verb ≡ false → is_open c.verb ≡ false → is_puzzle c.verb ≡ false → Performs c s s
  unfolding command_call run_one called
  by_none m u k o z =
      by_call c s s None o z (pick_false _ _ _ m ∙ pick_false _ _ _ u ∙ pick_false _ _ _ k) refl

  pub by_other : (v : Verb) → is_move v ≡ false → is_undo v ≡ false → is_check v ≡ false → is_open v ≡ false → is_puzzle v ≡ false → c.verb ≡ v → Performs c s s
  by_other v m u k o z e =
      by_none (ap is_move e ∙ m) (ap is_undo e ∙ u) (ap is_check e ∙ k) (ap is_open e ∙ o) (ap is_puzzle e ∙ z)

-- the verbs that name no call
pub no_move : (v : Verb) → (v ≡ verb.Place → ⊥) → (v ≡ verb.Mark → ⊥) → (v ≡ verb.Erase → ⊥) → is_move v ≡ false
unfolding is_move
no_move verb.Place p m e = absurd (p refl)
no_move verb.Mark p m e = absurd (m refl)
no_move verb.Erase p m e = absurd (e refl)
no_move _ p m e = refl

pub no_undo : (v : Verb) → (v ≡ verb.Undo → ⊥) → (v ≡ verb.Redo → ⊥) → is_undo v ≡ false
unfolding is_undo
no_undo verb.Undo u r = absurd (u refl)
no_undo verb.Redo u r = absurd (r refl)
no_undo _ u r = refl

pub no_check_lem : (v : Verb) → (v ≡ verb.Check → ⊥) → is_check v ≡ false
unfolding is_check
no_check_lem verb.Check n = absurd (n refl)
no_check_lem _ n = refl

pub no_open : (v : Verb) → (v ≡ verb.Open → ⊥) → is_open v ≡ false
unfolding is_open
no_open verb.Open n = absurd (n refl)
no_open _ n = refl

pub no_puzzle : (v : Verb) → (v ≡ verb.Puzzle → ⊥) → is_puzzle v ≡ false
unfolding is_puzzle
no_puzzle verb.Puzzle n = absurd (n refl)
no_puzzle _ n = refl

-- ---- open, by its words

abbrev asked : Verb → Words → Request
asked v w = request (record { verb = v; words = w })

module _ (v : Verb) (before after : Session) where
  pub opens_one : (w : Words) (path : Bor (List ℕ)) → w ≡ words.One path → Opens (record { verb = verb.Open; words = 2; first = path.now; second = []; third = [] }) before after → Opens (asked v w) before after
  unfolding open_leaves said pick both
  opens_one w path e o =
      subst (λ (x : Words). Opens (asked v x) before after) (sym e) (record { file = o.file; answers = o.answers; leaves = o.leaves })

  pub opens_two : (w : Words) (path solution : Bor (List ℕ)) → w ≡ words.Two path solution → Opens (record { verb = verb.Open; words = 2; first = path.now; second = solution.now; third = [] }) before after → Opens (asked v w) before after
  unfolding open_leaves said pick both
  opens_two w path solution e o =
      subst (λ (x : Words). Opens (asked v x) before after) (sym e) (record { file = o.file; answers = o.answers; leaves = o.leaves })

pub opens_none : (v : Verb) (w : Words) (s : Session) → ((path : Bor (List ℕ)) → w ≡ words.One path → ⊥) → ((path solution : Bor (List ℕ)) → w ≡ words.Two path solution → ⊥) → Opens (asked v w) s s
unfolding open_leaves said pick both
opens_none v words.Zero s one two = record { file = unread; answers = unread; leaves = refl }
opens_none v (words.One path) s one two = absurd (one path refl)
opens_none v (words.Two path solution) s one two = absurd (two path solution refl)
opens_none v (words.Three row column digit) s one two = record { file = unread; answers = unread; leaves = refl }
opens_none v (words.More row column digit) s one two = record { file = unread; answers = unread; leaves = refl }
