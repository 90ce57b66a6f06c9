-- The invariant: none of the slots that were passed is empty or has a record of which the test is true.
-- Assumes nothing.
use mathlib.Core.Path.{ap, ◌∙◌}
use Rattle.index.specs.Cells.{cell, hash}
use Rattle.index_search.proofs.Probing.{kind_small, fails_past, fails_other, fails_test, passed_none, passed_more, ends_empty, ends_nowhere, ends_met}
use Rattle.index_search.proofs.slots.probe.Goals as goal
use Rattle.index_search.proofs.slots.probe.Goals.{else-n-count-via-then-n-count+then-has+else-is, else-n-count-via-then-n-count+else-has, else-n-count-via-else-n-count}

pub loop-d-init : goal.loop-d-init
loop-d-init g c = passed_none

pub returns-then-v-eq0 : goal.returns-then-v-eq0
returns-then-v-eq0 g c = ends_empty c.loop-d.invariant (c.get_row-v.ensures ∙ ap (cell _ _ hash) c.slot.ensures) c.if-v-eq0.true

pub returns-then-is : goal.returns-then-is
returns-then-is g c = ends_met c.if-n-count.true c.is.ensures c.if-is.true

pub loop-d-preserved : goal.loop-d-preserved
loop-d-preserved g c =
    passed_more c.loop-d.invariant (c.get_row-v.ensures ∙ ap (cell _ _ hash) c.slot.ensures) c.loop-d-test.true c.if-v-eq0.false
    (elim c.else-n-count.branch [
      | else-n-count-via-then-n-count+then-has+else-is w ↦ fails_test (kind_small c.args.table) c.number_of-n.ensures w.is.ensures w.if-is.false
      | else-n-count-via-then-n-count+else-has w ↦ fails_other (kind_small c.args.table) c.number_of-n.ensures (rw w.kind.ensures at w.has.ensures) w.if-has.false
      | else-n-count-via-else-n-count w ↦ fails_past (kind_small c.args.table) c.number_of-n.ensures w.if-n-count.false
    ])

pub returns : goal.returns
returns g c = ends_nowhere c.loop-d.invariant c.loop-d-test.false
