-- The hash so far with what is ahead comes to the hash with all segments.
-- Assumes nothing.
use mathlib.Core.Path.{◌≡◌}
use Rattle.index_compare.specs.View.{viewed_ahead}
use Rattle.index_search.specs.Hash.{mixed_segments}
use Rattle.index_search.proofs.hash.mix_ahead.Given as goal

abbrev pub invariant-loop-segment : goal.invariant-loop-segment
invariant-loop-segment l =
    (goal.iterator-loop-segment).can_next l.segment-iterator × (goal.iterator-loop-segment).is_finite l.segment-iterator
    × (mixed_segments l.key l.x (viewed_ahead l.segment-iterator)
    ≡ mixed_segments l.key l.h (viewed_ahead l.fn.segments))
