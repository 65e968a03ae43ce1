-- The memory that is lent to a board.
-- Assumes nothing.
use Rattle.board.specs.Open.{no_moves, no_checks}
use Rattle.files.specs.declared.Memory.{Memory}

-- memory of zeros: no move and no check
abbrev pub fresh_memory : Memory
fresh_memory = record { journal = no_moves; checks = no_checks }
