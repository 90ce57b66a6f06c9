-- The number that a slot holds.
-- Assumes nothing.
use native.Mathlib.Omega.{arith}
use Rattle.index.specs.Names.{code_of}
use Rattle.index_search.proofs.slots.code_of.Goals as goal

pub returns : goal.returns
unfolding code_of
returns c = omega arith
