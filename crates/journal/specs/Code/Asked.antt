-- What some bytes ask about, as the code reads it: a stored check's first five, and a record's behind the kind byte.
-- Assumes nothing.
use Rattle.std.specs.Prelude.{ℕ, List, get_or}
use Rattle.journal.specs.declared.Asked.{Asked}
use Rattle.journal.specs.Bytes.{two}

unfoldable pub asked_in : List ℕ → Asked
asked_in bytes =
    record {
      standing = two (get_or bytes 0 0) (get_or bytes 1 0);
      row = get_or bytes 2 0;
      column = get_or bytes 3 0;
      digit = get_or bytes 4 0;
    }
