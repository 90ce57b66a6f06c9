-- `write_pattern::ElementsIterator::next` meets its contract: the first of the elements, where four bytes are left.
-- Assumes nothing.
use Rattle.write_pattern.proofs.Laws.{next_first, next_none}
use Rattle.write_pattern.proofs.ElementsIterator.next.Goals as goal

pub returns-in_err-first-clause-steps : goal.returns-in_err-first-clause-steps
returns-in_err-first-clause-steps c = rw c.from_residual.ensures (next_none _ c.in_err-first.ensures.cases)

pub returns-clause-steps : goal.returns-clause-steps
returns-clause-steps c = let split = c.in_ok-first.ensures.cases in next_first _ split.0 split.1 split.2 c.from_le_bytes.ensures
