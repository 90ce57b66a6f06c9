-- `index_entry::numbered::type_at` meets its contract.
-- Assumes nothing.
use Rattle.index_entry.proofs.numbered.type_at.Goals as goal

pub returns : goal.returns
returns c = rw (← c.get.ensures) c.type_at.ensures
