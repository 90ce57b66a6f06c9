-- The product, folded.
-- Assumes nothing.
use Rattle.index.specs.Names.{mixed}
use Rattle.index_search.proofs.hash.mix.Goals as goal

pub returns : goal.returns
unfolding mixed
returns c = c.folded.ensures
