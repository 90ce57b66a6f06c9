-- `walk_queries::queries::is_other_code` meets its contract.
-- Assumes nothing.
use Rattle.walk_queries.proofs.CodeLaws.{code_other}
use Rattle.walk_queries.proofs.queries.is_other_code.Goals as goal

pub returns : goal.returns
returns c = code_other c.byte_at.ensures
