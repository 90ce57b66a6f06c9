-- `walk_queries::queries::find_member` meets its contract.
-- Assumes nothing.
use Rattle.walk_queries.proofs.MemberLaws.{no_enum, member_at, not_member}
use Rattle.walk_queries.proofs.queries.find_member.Goals as goal

pub returns-in_default : goal.returns-in_default
returns-in_default c = no_enum c.enum_of.ensures c.in_default.is

pub returns-in-Some-find_in : goal.returns-in-Some-find_in
returns-in-Some-find_in c = member_at c.enum_of.ensures c.in-Some.is c.find_in.ensures c.in-Some-find_in.is

pub returns-in-None : goal.returns-in-None
returns-in-None c = not_member c.enum_of.ensures c.in-Some.is c.find_in.ensures c.in-None.is
