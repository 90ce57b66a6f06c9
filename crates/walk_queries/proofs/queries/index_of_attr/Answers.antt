-- `walk_queries::queries::index_of_attr` meets its contract.
-- Assumes nothing.
use Rattle.walk_queries.proofs.MemberLaws.{attribute_found, not_record}
use Rattle.walk_queries.proofs.queries.index_of_attr.Goals as goal

pub returns-in_default : goal.returns-in_default
returns-in_default c = not_record c.type_at.ensures c.in_default.not-Record

pub returns : goal.returns
returns c = attribute_found c.type_at.ensures c.in-Record.is c.names.ensures c.get-list.ensures c.find.ensures c.ok_or.ensures.value
