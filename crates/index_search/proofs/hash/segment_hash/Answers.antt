-- The mark, and then the segment.
-- Assumes nothing.
use Rattle.index_search.proofs.Shapes.{type_hashed}
use Rattle.index_search.proofs.hash.segment_hash.Goals as goal

pub returns : goal.returns
returns c = type_hashed _ _ _ c.mark_hash.ensures c.mix_segment.ensures
