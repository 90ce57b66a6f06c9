-- The number at the start of the body.
-- Assumes nothing.
use Rattle.check_types.proofs.Read.{width_first}
use Rattle.check_types.proofs.width_at.Goals as goal

pub returns : goal.returns
returns c = width_first _ _ c.body_at.ensures c.number_at.ensures
