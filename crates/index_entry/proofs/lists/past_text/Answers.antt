-- `index_entry::lists::past_text` meets its contract.
-- Assumes nothing.
use Rattle.index_entry.proofs.Places.{past_text}
use Rattle.index_entry.proofs.lists.past_text.Goals as goal

pub returns : goal.returns
returns c = past_text _ _ c.number_at-n.result c.past-start.result c.number_at-n.ensures c.past-start.ensures c.past.ensures
