-- The code fits in 32 bits where the number is small.
-- Assumes nothing.
use mathlib.Core.Path.{◌∙◌}
use native.Mathlib.Omega.{arith}
use Rattle.index.specs.Names.{code_of}
use Rattle.index_search.proofs.Narrow.{narrowed}
use Rattle.index_search.proofs.slots.code.Goals as goal

pub returns : goal.returns
unfolding code_of
returns c = λ h small. narrowed _ _ c.try_from.ensures c.unwrap_or.ensures (omega (arith, c.code_of.ensures)) ∙ c.code_of.ensures
