-- `index_entry::leaves::bit_vec_lit` meets its contract.
-- Assumes nothing.
use Rattle.index_entry.proofs.LeafEntries.{term_bits}
use Rattle.index_entry.proofs.leaves.bit_vec_lit.Goals as goal

pub returns-clause-is : goal.returns-clause-is
returns-clause-is c = term_bits c.number_at-width.ensures c.part_of.ensures c.low_first-value.ensures
