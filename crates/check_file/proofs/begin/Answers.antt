-- The slots are emptied, and then the key is stored.
-- Assumes nothing.
use Rattle.check_file.proofs.Loop.{ready}
use Rattle.check_file.proofs.begin.Goals as goal

pub returns : goal.returns
returns c = ready _ _ c.clear_column.ensures c.set.ensures c.set-2.ensures
