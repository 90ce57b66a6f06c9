-- `walk_queries::queries::enum_of` meets its contract: the number that is noted for an entity type.
-- Assumes nothing.
use Rattle.walk_queries.proofs.MemberLaws.{not_entity, entity_number}
use Rattle.walk_queries.proofs.queries.enum_of.Goals as goal

pub returns-in-Entity : goal.returns-in-Entity
returns-in-Entity c = rw c.then_some.ensures (entity_number c.type_at.ensures c.in-Entity.is c.get-e.ensures)

pub returns-in_default : goal.returns-in_default
returns-in_default c = not_entity c.type_at.ensures c.in_default.not-Entity
