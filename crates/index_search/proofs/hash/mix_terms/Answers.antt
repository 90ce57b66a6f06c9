-- The hash so far with what is ahead comes to the hash with all references.
-- Assumes nothing.
use mathlib.Core.Path.{refl, ◌∙◌}
use Rattle.index_compare.proofs.Compared.{led_map}
use Rattle.index_search.proofs.Mixed.{ahead_next, ahead_none}
use Rattle.index_search.proofs.hash.mix_terms.Goals as goal

pub loop-n-preserved : goal.loop-n-preserved
loop-n-preserved c = (tt, tt, ahead_next _ _ (led_map _ c.in-Some.ensures.steps refl) c.mix_first-x.ensures ∙ c.loop-n.invariant.2)

pub returns : goal.returns
returns c = ahead_none _ _ (rw c.in-None.ensures.steps.0) ∙ c.loop-n.invariant.2
