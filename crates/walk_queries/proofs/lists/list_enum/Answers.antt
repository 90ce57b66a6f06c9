-- `walk_queries::lists::list_enum` meets its contract.
-- Assumes nothing.
use Rattle.walk_queries.proofs.ListLaws.{enum_listed}
use Rattle.walk_queries.proofs.lists.list_enum.Goals as goal

pub returns-clause-made : goal.returns-clause-made
returns-clause-made c = record { go = λ f work₀ K l L. enum_listed K l L c.get-offset.ensures c.enum_at-members.ensures c.list_at.ensures.made }
