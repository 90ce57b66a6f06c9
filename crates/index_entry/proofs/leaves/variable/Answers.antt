-- `index_entry::leaves::variable` meets its contract.
-- Assumes nothing.
use Rattle.index_entry.proofs.LeafEntries.{term_var}
use Rattle.index_entry.proofs.leaves.variable.Goals as goal

pub returns-clause-is : goal.returns-clause-is
returns-clause-is c = term_var c.text_at.ensures c.past_text.ensures c.number_at-t.ensures
