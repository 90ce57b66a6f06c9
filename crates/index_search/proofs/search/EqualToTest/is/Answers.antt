-- The record at the offset that the column has.
-- Assumes nothing.
use Rattle.index_search.proofs.search.EqualToTest.is.Goals as goal

pub returns : goal.returns
returns c = rw c.get.ensures at c.same_at.ensures
