-- The mark, the element type and the count, one after the other.
-- Assumes nothing.
use mathlib.Core.Path.{◌∙◌}
use Rattle.index_search.specs.Hash.{set_start}
use Rattle.index_search.proofs.sets.set_start.Goals as goal

pub returns : goal.returns
unfolding set_start
returns c = c.mix.ensures ∙ rw (c.from.ensures, c.mix_reference.ensures, c.mark_hash-mark.ensures)
