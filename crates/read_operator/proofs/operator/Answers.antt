-- The operator with its tests.
-- Assumes nothing.
use Rattle.read_operator.specs.Again.{Taken, count}
use Rattle.read_operator.proofs.operator.Goals as goal

pub returns : goal.returns
unfolding Taken count
returns c = c.coded.ensures.is
