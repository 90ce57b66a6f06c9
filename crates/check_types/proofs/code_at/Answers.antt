-- `check_types::code_at` meets its contract: the first byte of the body.
-- Assumes nothing.
use Rattle.check_types.proofs.Read.{code_first}
use Rattle.check_types.proofs.code_at.Goals as goal

pub returns : goal.returns
returns c = code_first _ _ c.body_at.ensures c.byte_at.ensures
