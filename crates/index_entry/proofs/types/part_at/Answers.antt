-- `index_entry::types::part_at` meets its contract.
-- Assumes nothing.
use Rattle.index_entry.proofs.Parts.{part_is}
use Rattle.index_entry.proofs.types.part_at.Goals as goal

pub returns : goal.returns
returns c = part_is _ _ c.body_at.ensures c.number_at.ensures
