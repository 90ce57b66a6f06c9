-- `walk_queries::queries::is_bool` meets its contract.
-- Assumes nothing.
use Rattle.walk_queries.proofs.NegationLaws.{is_bool, not_bool}
use Rattle.walk_queries.proofs.queries.is_bool.Goals as goal

pub returns-in-Bool : goal.returns-in-Bool
returns-in-Bool c = is_bool c.type_at.ensures c.in-Bool.is

pub returns-in_default : goal.returns-in_default
returns-in_default c = not_bool c.type_at.ensures c.in_default.not-Bool
