-- The high half of the product with the folded square.
-- Assumes nothing.
use native.Mathlib.Omega.{arith}
use Rattle.index_search.proofs.Homes.{scales}
use Rattle.index_search.proofs.slots.scale.Goals as goal

pub returns : goal.returns
returns c = scales _ _ _ _ c.folded.ensures (omega arith) (omega (arith, c.carrying_mul-high.type_inv)) c.carrying_mul-high.ensures
