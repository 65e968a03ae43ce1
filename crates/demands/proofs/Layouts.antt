-- The layouts of document 01 hold: each row computes.
-- Assumes nothing.
use mathlib.Core.Path.{refl}
use mathlib.Core.List.{[], ◌∷◌}
use native.Mathlib.Omega.{arith}
use Rattle.calls.specs.declared.Call.TheVariants.{Check}
use Rattle.calls.specs.Session.{after}
use Rattle.calls.specs.Encoded as encoded
use Rattle.calls.proofs.Coding.{no_call_decoded}
use Rattle.demands.specs.Layouts.{fresh_e, calls_slots, SlotRows, many_moves, CheckRows, item_bytes, item_parts, ItemRows, CallRows, MalformedRows, Layouts}
use Rattle.demands.proofs.Computing.{computing}

slot_rows : SlotRows (after fresh_e calls_slots).journal
unfolding computing fresh_e calls_slots
slot_rows =
    record {
      places = record { written = refl; shown = refl; read = refl; move = refl };
      erases = record { written = refl; shown = refl; read = refl; move = refl };
      writes = record { written = refl; shown = refl; read = refl; move = refl };
      strikes = record { written = refl; shown = refl; read = refl; move = refl };
    }

check_rows : CheckRows (after many_moves (Check 6 2 ∷ Check 8 5 ∷ Check 6 2 ∷ [])).checks
unfolding computing fresh_e many_moves
check_rows = record { wrong = record { written = refl; read = refl; judged = refl }; right = record { written = refl; read = refl; judged = refl } }

item_rows : ItemRows
unfolding computing item_bytes item_parts
item_rows = record { written = refl; read = refl; stands = refl }

call_rows : CallRows
unfolding computing encoded.encode encoded.decode_other encoded.decode encoded.decode_at encoded.answer_bytes
call_rows =
    record {
      places = record { written = refl; read = refl };
      erases = record { written = refl; read = refl };
      pencils = record { written = refl; read = refl };
      undoes = record { written = refl; read = refl };
      redoes = record { written = refl; read = refl };
      checks = record { written = refl; read = refl };
      none_below = λ kind row column digit h. no_call_decoded kind row column digit (λ call a b e. omega (arith, h, a, e));
      none_above = λ kind row column digit h. no_call_decoded kind row column digit (λ call a b e. omega (arith, h, b, e));
      refused = refl;
      right = refl;
    }

malformed_rows : MalformedRows
unfolding computing item_bytes
malformed_rows =
    record {
      given_after_a_move = refl;
      given_after_6 = refl;
      move_after_6 = refl;
      second_6 = refl;
      check_first = refl;
      check_before_6 = refl;
      kind_0 = refl;
      kind_8 = refl;
      cut_place = refl;
      cut_erase = refl;
      cut_undone = refl;
      cut_check = refl;
      kind_alone_2 = refl;
      kind_alone_6 = refl;
      kind_alone_7 = refl;
      without_6 = refl;
      no_bytes = refl;
      behind_all_kinds = refl;
    }

pub layouts : Layouts
layouts = record { slots = slot_rows; checks = check_rows; items = item_rows; calls = call_rows; malformed = malformed_rows }
