-- `index_compare::shape::sole` meets its contract: the four bytes are the reference.
-- Assumes nothing.
use Rattle.index_compare.proofs.Shapes.{sole_shown}
use Rattle.index_compare.proofs.shape.sole.Goals as goal

pub returns : goal.returns
returns c = sole_shown c.args.body.now c.in_ok-n.ensures
