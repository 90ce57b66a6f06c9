-- `index_entry::lists::after_text` meets its contract.
-- Assumes nothing.
use Rattle.index_entry.proofs.Places.{after_text}
use Rattle.index_entry.proofs.lists.after_text.Goals as goal

pub returns : goal.returns
returns c = after_text c.args.skip c.past.result c.past_text-end.ensures c.past.ensures
