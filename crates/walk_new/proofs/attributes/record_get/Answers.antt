-- `walk_new::attributes::record_get` meets its contract.
-- Assumes nothing.
use Rattle.walk_new.proofs.AttributeLaws.{get_none, get_child}
use Rattle.walk_new.proofs.attributes.record_get.Goals as goal

pub returns-in-None : goal.returns-in-None
returns-in-None c = get_none _ c.in-None.ensures.steps.0

pub returns-in-Some : goal.returns-in-Some
returns-in-Some c = get_child _ c.in-Some.ensures.steps c.get-t.ensures c.check_attribute.ensures
