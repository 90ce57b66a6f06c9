-- `index_entry::parents::record_of` meets its contract.
-- Assumes nothing.
use Rattle.index_entry.proofs.ParentEntries.{term_record}
use Rattle.index_entry.proofs.parents.record_of.Goals as goal

pub returns-clause-is : goal.returns-clause-is
returns-clause-is c = term_record c.record_children.ensures
