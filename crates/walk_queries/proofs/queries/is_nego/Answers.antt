-- `walk_queries::queries::is_nego` meets its contract.
-- Assumes nothing.
use Rattle.walk_queries.proofs.NegoLaws.{is_nego, not_nego}
use Rattle.walk_queries.proofs.queries.is_nego.Goals as goal

pub returns-in-Bvnego : goal.returns-in-Bvnego
returns-in-Bvnego c = is_nego c.in-Bvnego.is

pub returns-in_default : goal.returns-in_default
returns-in_default c = not_nego c.in_default.not-Bvnego
