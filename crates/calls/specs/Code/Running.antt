-- How the code runs a list of encoded calls: one group after the other, each answered in its place.
-- Assumes nothing.
use Rattle.std.specs.Prelude.{ℕ, ◌*◌, List}
use Rattle.journal.specs.Bytes.{over}
use Rattle.calls.specs.Session.{Session, Called}
use Rattle.calls.specs.Encoded.{call_bytes, decode_at, run_one, answer_bytes, Ran, ran}

-- a call's answer behind i others, and what it leaves
unfoldable pub answered_at : List ℕ → ℕ → Called → Ran
answered_at answers i c = ran c.left (over answers (call_bytes * i) (answer_bytes c.said))

-- group i run, and answered in its place
unfoldable pub run_at : List ℕ → Session → List ℕ → ℕ → Ran
run_at calls s answers i = answered_at answers i (run_one s (decode_at calls i))
