-- `walk_queries::queries::find_in` meets its contract.
-- Assumes nothing.
use Rattle.walk_queries.proofs.MemberLaws.{finds_in}
use Rattle.walk_queries.proofs.queries.find_in.Goals as goal

pub returns : goal.returns
returns c = finds_in c.get.ensures c.enum_at-members.ensures c.get-2.ensures c.find.ensures
