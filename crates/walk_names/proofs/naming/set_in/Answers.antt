-- `walk_names::naming::set_in` meets its contract.
-- Assumes nothing.
use Rattle.walk_names.specs.Naming.{name_stored}
use Rattle.walk_names.proofs.naming.set_in.Goals as goal

pub returns : goal.returns
unfolding name_stored
returns c = rw (← c.get-at.ensures, ← c.raised.ensures) c.set.ensures
