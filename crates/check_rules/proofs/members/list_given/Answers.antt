-- The count.
-- Assumes nothing.
use Rattle.check_rules.proofs.Decided.{list_bad}
use Rattle.check_rules.proofs.EnumLaws.{list_given}
use Rattle.check_rules.proofs.members.list_given.Goals as goal

pub returns-in-Ok : goal.returns-in-Ok
returns-in-Ok c = list_given c.in-Ok.ensures

pub returns-in-Err : goal.returns-in-Err
returns-in-Err c = list_bad _ c.in-Err.ensures
