-- `reopen::take_back_all` takes back as many moves as it is asked for: the number left falls by one at each call.
-- Assumes nothing.
use Rattle.reopen.proofs.+take_back_all.Given as goal

abbrev pub decreases-take_back_all : goal.decreases-take_back_all
decreases-take_back_all l = l.n
