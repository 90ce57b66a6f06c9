-- The invariant: no slot that was passed is empty.
-- Assumes nothing.
use Rattle.index_search.proofs.Ring.{taken_none, taken_more, empty_here, empty_nowhere}
use Rattle.index_search.proofs.Probing.{slot_read}
use Rattle.index_search.proofs.slots.first_empty.Goals as goal

pub loop-steps-init : goal.loop-steps-init
loop-steps-init c = taken_none

pub returns-then-v-eq0 : goal.returns-then-v-eq0
returns-then-v-eq0 c = empty_here c.loop-steps.invariant (slot_read _ _ c.number.ensures c.slot.ensures c.get-v.ensures) c.if-v-eq0.true

pub loop-steps-preserved : goal.loop-steps-preserved
loop-steps-preserved c = taken_more c.loop-steps.invariant (slot_read _ _ c.number.ensures c.slot.ensures c.get-v.ensures) c.loop-steps-test.true c.if-v-eq0.false

pub returns : goal.returns
returns c = empty_nowhere c.loop-steps.invariant c.loop-steps-test.false
