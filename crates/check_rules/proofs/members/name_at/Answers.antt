-- The name of the body.
-- Assumes nothing.
use Rattle.check_rules.proofs.EnumLaws.{name_at_lem}
use Rattle.check_rules.proofs.members.name_at.Goals as goal

pub returns : goal.returns
returns c = name_at_lem _ _ c.body_at.result c.body_at.ensures c.parts_of.ensures.0
