-- `index_compare::segments::SegmentsIterator::next` meets its contract: a step of the walk.
-- Assumes nothing.
use Rattle.index_compare.specs.Machine.{ahead}
use Rattle.index_compare.specs.Step.{told}
use Rattle.index_compare.proofs.Steps.{fewer_left, step_yields}
use Rattle.index_compare.proofs.segments.SegmentsIterator.next.Goals as goal

pub returns-clause-steps : goal.returns-clause-steps
returns-clause-steps c = step_yields _ _ _ c.step.ensures.gives c.step.ensures.rests

pub returns-clause-goes : goal.returns-clause-goes
returns-clause-goes c = fewer_left ahead told _ (returns-clause-steps c)
