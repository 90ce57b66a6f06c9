-- The count, and then the items.
-- Assumes nothing.
use Rattle.check_rules.proofs.Decided.{decides_list, list_bad}
use Rattle.check_rules.proofs.record.list_ascends.Goals as goal

pub returns-in-Ok : goal.returns-in-Ok
returns-in-Ok g c = decides_list c.in-Ok.ensures c.ascend.ensures

pub returns-in-Err : goal.returns-in-Err
returns-in-Err g c = list_bad _ c.in-Err.ensures
