-- `index_compare::shape::named` meets its contract: the type is after the text.
-- Assumes nothing.
use Rattle.index_compare.proofs.Shapes.{named_shown}
use Rattle.index_compare.proofs.shape.named.Goals as goal

pub returns : goal.returns
returns c = named_shown c.args.body.now c.in_ok-n.ensures c.in_ok-t.ensures
