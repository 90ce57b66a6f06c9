-- `walk_types::settled::is_settled_itself` meets its contract: by the mark, or by the name.
-- Assumes nothing.
use Rattle.walk_types.proofs.Settling.{settled_mark, settled_name, unsettled}
use Rattle.walk_types.proofs.settled.is_settled_itself.Goals as goal

pub returns-in-Mark : goal.returns-in-Mark
returns-in-Mark c = settled_mark c.get.ensures c.in-Mark.is c.settled_by.ensures

pub returns-in-Part : goal.returns-in-Part
returns-in-Part c = unsettled

pub returns-in-Name : goal.returns-in-Name
returns-in-Name c = settled_name _ c.get-in-Name.ensures c.is_some.ensures
