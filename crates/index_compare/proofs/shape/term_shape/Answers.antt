-- `index_compare::shape::term_shape` meets its contract: a body of a mark without references is bytes alone.
-- Assumes nothing.
use Rattle.index_compare.proofs.Shapes.{bare_term}
use Rattle.index_compare.proofs.shape.term_shape.Goals as goal

pub returns-in-66 : goal.returns-in-66
returns-in-66 c = bare_term _ c.in-66.is
