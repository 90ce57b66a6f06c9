-- The mark, and then the segments.
-- Assumes nothing.
use Rattle.index_search.proofs.Shapes.{type_hashed}
use Rattle.index_search.proofs.hash.listed_hash.Goals as goal

pub returns : goal.returns
returns c = type_hashed _ _ _ c.mark_hash.ensures (rw c.viewed_segments.ensures at c.mix_ahead.ensures)
