-- `index_entry::leaves::entity_lit` meets its contract.
-- Assumes nothing.
use Rattle.index_entry.proofs.LeafEntries.{term_entity}
use Rattle.index_entry.proofs.leaves.entity_lit.Goals as goal

pub returns-clause-is : goal.returns-clause-is
returns-clause-is c = term_entity c.number_at-t.ensures c.text_at-id.ensures
