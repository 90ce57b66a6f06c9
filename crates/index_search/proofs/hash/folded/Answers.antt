-- The two halves of the product, folded.
-- Assumes nothing.
use native.Mathlib.Omega.{arith}
use Rattle.index_search.proofs.Mixed.{folded_halves}
use Rattle.index_search.proofs.hash.folded.Goals as goal

pub returns : goal.returns
returns c = folded_halves _ _ _ (omega (arith, c.carrying_mul-low.type_inv)) c.carrying_mul-low.ensures
