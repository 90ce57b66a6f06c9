-- `index_entry::numbered::fun_at` meets its contract.
-- Assumes nothing.
use Rattle.index_entry.proofs.numbered.fun_at.Goals as goal

pub returns : goal.returns
returns c = rw (← c.get.ensures) c.fun_at.ensures
