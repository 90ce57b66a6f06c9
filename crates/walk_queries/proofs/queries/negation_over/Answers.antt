-- `walk_queries::queries::negation_over` meets its contract.
-- Assumes nothing.
use Rattle.walk_queries.proofs.NegationLaws.{over_bits, over_other}
use Rattle.walk_queries.proofs.queries.negation_over.Goals as goal

pub returns-in-BitVec : goal.returns-in-BitVec
returns-in-BitVec c = over_bits c.type_at.ensures c.in-BitVec.is

pub returns-in_default : goal.returns-in_default
returns-in_default c = over_other c.type_at.ensures c.in_default.not-BitVec
