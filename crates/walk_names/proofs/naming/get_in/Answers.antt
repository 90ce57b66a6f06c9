-- `walk_names::naming::get_in` meets its contract: what is at most the greatest depth is no name.
-- Assumes nothing.
use Rattle.walk_names.proofs.Names.{name_got}
use Rattle.walk_names.proofs.naming.get_in.Goals as goal

pub returns : goal.returns
returns c = name_got _ _ _ _ _ _ c.get-at.ensures c.get.ensures c.checked_sub.ensures
