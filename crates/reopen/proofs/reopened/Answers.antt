-- `reopen::reopened` meets its contract: not read, a move refused, or what settling answers.
-- Assumes nothing.
use mathlib.Core.Path.{ap, ◌∙◌}
use native.Mathlib.Omega.{arith}
use lib.ListN.{length}
use Rattle.std.proofs.lemmas.Result.{err_from_is_err_and}
use Rattle.puzzle.proofs.Rows.{laid_out}
use Rattle.record.proofs.Errors.{reopen_numbered}
use Rattle.reopen.proofs.Settling.{reopens_refused, no_moves_length, unread, few_moves, few_checks_lem, givens_inside, checks_inside, none_stand, unplayed, plays_on}
use Rattle.reopen.proofs.reopened.Goals as goal

pub returns-in_err-s : goal.returns-in_err-s
returns-in_err-s c =
    let laid = laid_out _ _ c.rows_of-rows.ensures c.requires.0 in
    let p = err_from_is_err_and c.from_residual.result c.from_residual.ensures.1 in
    rw (← laid, p.1, p.2) (reopens_refused _ _ _ _ (unread _ _ _ c.in_err-s.ensures.refusal (reopen_numbered _)))

pub overflow_mul-s : goal.overflow_mul-s
overflow_mul-s c =
    let read = c.in_ok-s.ensures in
    omega (arith, givens_inside _ _ read.refusal _ read.counts c.type_inv.bytes, c.well_formed.0.1)

pub replay-requires : goal.replay-requires
replay-requires c =
    let read = c.in_ok-s.ensures in
    let none = c.requires.1 in (
      givens_inside _ _ read.refusal _ read.counts c.type_inv.bytes,
      few_moves _ _ read.refusal _ read.counts c.type_inv.bytes,
      none_stand _ _ read.refusal _ read.counts c.type_inv.bytes _ c.fresh-board.ensures _ none,
      ap length none ∙ no_moves_length,
    )

pub returns-in_err-last : goal.returns-in_err-last
returns-in_err-last c =
    let read = c.in_ok-s.ensures in
    let laid = laid_out _ _ c.rows_of-rows.ensures c.requires.0 in
    let p = err_from_is_err_and c.from_residual-in_err-last.result c.from_residual-in_err-last.ensures.1 in
    rw (← laid, p.1, p.2)
    (reopens_refused _ _ _ _
    (unplayed _ _ read.refusal _ read.counts c.type_inv.bytes _ c.fresh-board.ensures _ c.requires.1 _ c.in_err-last.ensures.refusal (reopen_numbered _)))

pub settle-requires : goal.settle-requires
settle-requires c =
    let read = c.in_ok-s.ensures in
    (few_checks_lem _ _ read.refusal _ read.counts c.type_inv.bytes, checks_inside _ _ read.refusal _ read.counts c.type_inv.bytes, c.requires.2)

-- what settling answers from the board after the last move
pub returns : goal.returns
returns c =
    let read = c.in_ok-s.ensures in
    let played = c.in_ok-last.ensures in
    let laid = laid_out _ _ c.rows_of-rows.ensures c.requires.0 in
    rw (← laid, plays_on _ _ read.refusal _ read.counts c.type_inv.bytes _ c.fresh-board.ensures _ c.requires.1 played.refusal _ _ played.played) c.settle.ensures
