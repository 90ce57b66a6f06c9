-- Up to the end of the ring, and round it.
-- Assumes nothing.
use native.Mathlib.Omega.{arith}
use Rattle.index_search.proofs.Ring.{slot_before, slot_round}
use Rattle.index_search.proofs.slots.slot.Goals as goal

pub returns-then-d-left : goal.returns-then-d-left
returns-then-d-left c = slot_before _ _ _ (omega arith)

pub returns : goal.returns
returns c = rw c.saturating_sub-left.ensures (slot_round _ _ _ (omega arith))
