-- `walk_queries::queries::negation_of` meets its contract: by its mark and its code, or by all of its record.
-- Assumes nothing.
use Rattle.walk_queries.proofs.NegationLaws.{of_unlike}
use Rattle.walk_queries.proofs.queries.negation_of.Goals as goal

pub returns-then-is_other : goal.returns-then-is_other
returns-then-is_other c = of_unlike c.get.ensures c.is_other.ensures c.if-is_other.true
