-- `index_compare::compare::ViewedSegmentsIterator::next` meets its contract: the next segment, in the view.
-- Assumes nothing.
use Rattle.index_compare.specs.View.{viewed_ahead}
use Rattle.index_compare.specs.Step.{told}
use Rattle.index_compare.proofs.Compared.{led_map}
use Rattle.index_compare.proofs.Steps.{fewer_left}
use Rattle.index_compare.proofs.compare.ViewedSegmentsIterator.next.Goals as goal

pub returns-in_err-met-clause-steps : goal.returns-in_err-met-clause-steps
returns-in_err-met-clause-steps c = rw c.from_residual.ensures (let e = c.in_err-met.ensures.steps in (rw e.0, rw e.1))

pub returns-clause-steps : goal.returns-clause-steps
returns-clause-steps c = led_map _ c.in_ok-met.ensures.steps c.viewed.ensures

pub returns-clause-goes : goal.returns-clause-goes
returns-clause-goes c = fewer_left viewed_ahead told _ (returns-clause-steps c)
