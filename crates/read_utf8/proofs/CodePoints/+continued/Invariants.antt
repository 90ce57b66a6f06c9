-- The measure: the number of bytes to come.
-- Assumes nothing.
use Rattle.read_utf8.proofs.CodePoints.+continued.Given as goal

abbrev pub decreases-continued : goal.decreases-continued
decreases-continued l = l.more
