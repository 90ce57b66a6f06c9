-- `index_compare::shape::shape_at` meets its contract: by the mark at the offset and the body.
-- Assumes nothing.
use mathlib.Core.List.{List}
use mathlib.Core.Path.{subst}
use Rattle.index_compare.specs.Segment.{Segment}
use Rattle.index_compare.specs.Shape.{Shaped}
use Rattle.index_compare.proofs.Shapes.{segments_by}
use Rattle.index_compare.proofs.shape.shape_at.Goals as goal

pub returns : goal.returns
returns c = subst (λ (l : List Segment). Shaped l c.shape_by.result) (segments_by _ _ c.first_letter.ensures c.byte_after.ensures c.body_at.ensures) c.shape_by.ensures
