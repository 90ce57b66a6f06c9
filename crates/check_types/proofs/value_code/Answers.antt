-- The code, less one.
-- Assumes nothing.
use Rattle.check_types.proofs.Read.{code_of_value}
use Rattle.check_types.proofs.value_code.Goals as goal

pub returns : goal.returns
returns c = code_of_value _ _ c.code_at.ensures c.saturating_sub.ensures
