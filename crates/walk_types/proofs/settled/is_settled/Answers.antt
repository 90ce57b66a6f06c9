-- `walk_types::settled::is_settled` meets its contract: by the type that is noted, or by itself.
-- Assumes nothing.
use Rattle.walk_types.proofs.Settling.{settled_part}
use Rattle.walk_types.proofs.settled.is_settled.Goals as goal

pub returns-in-Part : goal.returns-in-Part
returns-in-Part c = settled_part c.get.ensures c.in-Part.is c.settled_by.ensures c.get-in-Part.ensures c.is_settled_itself.ensures
