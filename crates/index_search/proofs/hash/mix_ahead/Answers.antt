-- The hash so far with what is ahead comes to the hash with all segments.
-- Assumes nothing.
use mathlib.Core.Path.{◌∙◌}
use Rattle.index_search.proofs.Mixed.{ahead_next, ahead_none}
use Rattle.index_search.proofs.hash.mix_ahead.Goals as goal

pub loop-segment-preserved : goal.loop-segment-preserved
loop-segment-preserved c = (tt, tt, ahead_next _ _ c.in-Some.ensures.steps c.mix_segment-x.ensures ∙ c.loop-segment.invariant.2)

pub returns : goal.returns
returns c = ahead_none _ _ c.in-None.ensures.steps.0 ∙ c.loop-segment.invariant.2
