-- `index_compare::shape::type_shape` meets its contract: a body of a mark without references is bytes alone.
-- Assumes nothing.
use Rattle.index_compare.proofs.Shapes.{bare_type}
use Rattle.index_compare.proofs.shape.type_shape.Goals as goal

pub returns-in-66 : goal.returns-in-66
returns-in-66 c = bare_type _ c.in-66.is
