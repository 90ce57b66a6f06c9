-- The slot, and the store.
-- Assumes nothing.
use Rattle.index_search.proofs.Probing.{slot_stored, taken_stored}
use Rattle.index_search.proofs.slots.store_at.Goals as goal

pub returns-clause-first : goal.returns-clause-first
returns-clause-first c = λ F. record { go = λ inside some. taken_stored F inside some (slot_stored _ _ c.number.ensures c.slot.ensures _ c.set.ensures) }
