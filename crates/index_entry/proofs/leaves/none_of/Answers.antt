-- `index_entry::leaves::none_of` meets its contract.
-- Assumes nothing.
use Rattle.index_entry.proofs.LeafEntries.{term_none}
use Rattle.index_entry.proofs.leaves.none_of.Goals as goal

pub returns-clause-is : goal.returns-clause-is
returns-clause-is c = term_none c.number_at.ensures
