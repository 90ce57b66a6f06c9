-- The first empty slot, and the store.
-- Assumes nothing.
use Rattle.index_search.proofs.slots.store.Goals as goal

pub returns : goal.returns
returns c = c.store_at.ensures.first c.first_empty-d.ensures
