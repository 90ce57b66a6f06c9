-- `index_entry::parents::some_of` meets its contract.
-- Assumes nothing.
use Rattle.index_entry.proofs.ParentEntries.{term_some}
use Rattle.index_entry.proofs.parents.some_of.Goals as goal

pub returns-clause-is : goal.returns-clause-is
returns-clause-is c = term_some c.number_at.ensures
