-- The members of the body, and their test.
-- Assumes nothing.
use Rattle.check_rules.proofs.EnumLaws.{enum_ascends}
use Rattle.check_rules.proofs.members.members_ascend.Goals as goal

pub returns : goal.returns
returns c = enum_ascends _ _ _ c.body_at.ensures c.parts_of.ensures.1 c.parts_of.ensures.2 c.list_ascends.ensures
