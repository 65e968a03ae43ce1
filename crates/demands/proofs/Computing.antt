-- The definitions that the twelve positions compute, from the grid to the
-- calls. A proof that names `computing` on its `unfolding` line opens them all.
-- Assumes nothing.
use Prim.Native.Nat.{ℕ}
use Rattle.puzzle.specs.Givens.{is_given}
use Rattle.sudoku.specs.Tests as tests
use Rattle.sudoku.specs.Grid as grid
use Rattle.note.specs.Note as note
use Rattle.puzzle.specs.Refusals as refusals
use Rattle.puzzle.specs.Givens as givens
use Rattle.puzzle.specs.Puzzle as puzzle
use Rattle.puzzle.specs.Vouch as vouch
use Rattle.puzzle.specs.Text as text
use Rattle.journal.specs.Bytes as bytes
use Rattle.journal.specs.State as state
use Rattle.journal.specs.Slots as slots
use Rattle.journal.specs.Counts as counts
use Rattle.journal.specs.StoredChecks as checks
use Rattle.board.specs.Board as board
use Rattle.board.specs.Open as opening
use Rattle.play.specs.Play as play
use Rattle.play.specs.Check as checking
use Rattle.record.specs.Items as items
use Rattle.record.specs.Scan as scan
use Rattle.record.specs.Write as writing
use Rattle.record.specs.Reopen as reopening
use Rattle.lines.specs.Lines as lines
use Rattle.calls.specs.Session as session
use Rattle.demands.specs.Positions as positions

unfoldable of_tests : ℕ
unfolding tests.pick tests.both tests.either tests.bit tests.every tests.count tests.keep tests.among tests.first tests.listed
of_tests = 0

unfoldable of_grid : ℕ
unfolding grid.in_range grid.on_grid grid.cell_of grid.is_cell grid.row_of grid.column_of grid.box_index grid.is_peer_of grid.are_peers grid.peers_of grid.at grid.put
of_grid = 0

unfoldable of_note : ℕ
unfolding note.contains note.with_mark note.without note.is_note
of_note = 0

unfoldable of_refusals : ℕ
unfolding refusals.is_accepted refusals.refused_if refusals.or_else refusals.first_refused
of_refusals = 0

unfoldable of_givens_lem : ℕ
unfolding givens.triples givens.triple_bytes givens.givens_by givens.precedes givens.ascend_from givens.ascending givens.put_givens givens.mark_givens givens.digits_of givens.given_cells givens.is_given
of_givens_lem = 0

unfoldable of_puzzle : ℕ
unfolding puzzle.is_held puzzle.holds_digit puzzle.conflicts puzzle.is_full puzzle.is_consistent puzzle.settled puzzle.stands_clear puzzle.clear_cells puzzle.digits_left puzzle.keypad
of_puzzle = 0

unfoldable of_vouch : ℕ
unfolding vouch.nothing_left vouch.solution_digit vouch.first_holding vouch.solution_conflict vouch.given_matches vouch.givens_match vouch.vouch vouch.well_posed
of_vouch = 0

unfoldable of_bytes : ℕ
unfolding bytes.part bytes.over bytes.low bytes.second bytes.third bytes.two bytes.three
of_bytes = 0

unfoldable of_state : ℕ
unfolding state.opening state.digit_at state.note_at state.holds_players_digit state.accepts_marks state.with_notes state.put_digit state.write_at state.strike_at state.strike_all state.holders state.lowest state.strike_masked state.write_masked state.every_masked state.row_in state.column_in state.digit_in state.kind_of state.perform state.before state.struck state.perform_again state.take_back state.stands_as_left state.stands_as_found
of_state = 0

unfoldable of_slots : ℕ
unfolding slots.slot_for slots.bytes_of slots.slot_start slots.slot_part slots.slot_at slots.move_of slots.sound_place slots.sound_erase slots.sound_mark slots.is_free slots.is_sound
of_slots = 0

unfoldable of_counts : ℕ
unfolding counts.recorded counts.taken_back counts.retaken
of_counts = 0

unfoldable of_stored_checks : ℕ
unfolding checks.is_right checks.stored_bytes checks.stored_all checks.check_start checks.verdict_byte checks.stored_at checks.sound_stored checks.is_sound_check
of_stored_checks = 0

unfoldable of_board : ℕ
unfolding board.state_of board.counts_of board.board_of board.moved board.may_stand board.digit_value board.note_value board.solution_value board.is_board board.fresh board.zero_board
of_board = 0

unfoldable of_open : ℕ
unfolding opening.no_moves opening.no_checks opening.wrong_length opening.turned_away opening.opened_fresh opening.lent_lengths opening.open_of
of_open = 0

unfoldable of_play : ℕ
unfolding play.move_tests play.move_for play.play_tests board.lent_tests play.undo_before play.redo_before play.journal_refusal play.call_tests play.record_move play.play_of play.slot_refusal play.unsound_slot play.can_take_back play.undo_tests play.undone play.undo_of play.can_retake play.redo_tests play.redone play.redo_of
of_play = 0

unfoldable of_check : ℕ
unfolding checking.check_tests checking.check_on checking.with_check checking.check_of
of_check = 0

unfoldable of_items : ℕ
unfolding items.encode items.encode_all items.given_item items.check_item items.items_of items.record_of
of_items = 0

unfoldable of_scan : ℕ
unfolding scan.body2 scan.body3 scan.body5 scan.by_kind scan.take_item scan.go_on scan.items_in scan.items_of_bytes scan.reached scan.may_stand scan.scan scan.malformed scan.add scan.no_parts scan.parts_in scan.parts_of_bytes
of_scan = 0

unfoldable of_write : ℕ
unfolding writing.givens_of writing.moves_of writing.asked_of writing.parts_of play.unsound_check writing.unwritable writing.write_refusal writing.wrote_by writing.write_of
of_write = 0

unfoldable of_lines : ℕ
unfolding text.cell_value lines.is_line lines.value_at lines.other_sort lines.line_refusal lines.line_givens lines.read_refusal lines.read_line_of lines.character_at lines.line_of lines.write_line_refusal lines.write_line_of lines.dotted lines.dotted_line
of_lines = 0

unfoldable of_reopen : ℕ
unfolding reopening.any_late reopening.oversized reopening.miscounted reopening.unreadable reopening.replay reopening.take_back_all reopening.to_play reopening.check_refusal reopening.checks_refusal reopening.reopened reopening.settled_record reopening.replayed reopening.reopen_of
of_reopen = 0

unfoldable of_session : ℕ
unfolding session.called session.call_of session.after session.answers session.started
of_session = 0

unfoldable of_positions : ℕ
unfolding positions.digit_g positions.solution_g positions.givens_from positions.givens_e positions.givens_l positions.open_g positions.numbers positions.verdicts positions.marks_around positions.calls_e positions.notes_around positions.in_turn positions.write positions.reopening positions.record_h positions.items_from positions.record_l positions.record_i positions.calls_f
of_positions = 0

unfoldable pub computing : ℕ
unfolding of_tests of_grid of_note of_refusals of_givens_lem of_puzzle of_vouch of_bytes of_state of_slots of_counts of_stored_checks of_board of_open of_play of_check of_items of_scan of_write of_lines of_reopen of_session of_positions
computing = 0
