-- `index_entry::parents::set_of` meets its contract.
-- Assumes nothing.
use Rattle.index_entry.proofs.ParentEntries.{term_set}
use Rattle.index_entry.proofs.parents.set_of.Goals as goal

pub returns-clause-is : goal.returns-clause-is
returns-clause-is c = term_set c.number_at.ensures c.set_children.ensures
