-- `index_entry::leaves::string_lit` meets its contract.
-- Assumes nothing.
use Rattle.index_entry.proofs.LeafEntries.{term_string}
use Rattle.index_entry.proofs.leaves.string_lit.Goals as goal

pub returns-clause-is : goal.returns-clause-is
returns-clause-is c = term_string c.text_at.ensures
