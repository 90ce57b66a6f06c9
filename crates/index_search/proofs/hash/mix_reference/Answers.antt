-- The kind in the high half, and the number in the low one.
-- Assumes nothing.
use mathlib.Core.Path.{◌∙◌}
use Rattle.index_search.specs.Hash.{mixed_segment}
use Rattle.index_search.proofs.hash.mix_reference.Goals as goal

pub returns : goal.returns
unfolding mixed_segment
returns c = c.mix.ensures ∙ (rw (c.from.ensures, c.from-2.ensures))
