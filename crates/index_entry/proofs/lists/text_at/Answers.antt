-- `index_entry::lists::text_at` meets its contract.
-- Assumes nothing.
use Rattle.index_entry.proofs.Places.{text_is}
use Rattle.index_entry.proofs.lists.text_at.Goals as goal

pub returns : goal.returns
returns c = text_is _ _ _ c.number_at-n.result c.past-start.result c.number_at-n.ensures c.past-start.ensures c.part_of.ensures
