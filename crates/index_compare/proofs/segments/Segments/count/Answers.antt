-- `index_compare::segments::Segments::count` meets its contract: the count that was read is the one that is cut.
-- Assumes nothing.
use Rattle.index_compare.specs.Segment.{plain}
use Rattle.index_compare.specs.Machine.{count_then}
use Rattle.index_compare.proofs.Steps.{cut_uncounted}
use Rattle.index_compare.proofs.segments.Segments.count.Goals as goal

pub returns-in_err-n-clause-gives : goal.returns-in_err-n-clause-gives
unfolding count_then
returns-in_err-n-clause-gives c = rw c.from_residual.ensures (cut_uncounted 0 _ plain _ c.in_err-n.ensures)
