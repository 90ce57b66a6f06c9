-- The members of the body, and their test.
-- Assumes nothing.
use Rattle.check_rules.proofs.EnumLaws.{enum_given}
use Rattle.check_rules.proofs.members.members_given.Goals as goal

pub returns : goal.returns
returns c = enum_given _ _ _ c.body_at.ensures c.parts_of.ensures.1 c.parts_of.ensures.2 c.list_given.ensures
