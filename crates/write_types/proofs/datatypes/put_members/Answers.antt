-- `write_types::datatypes::put_members` meets its contract. The loop's invariant: what is left of the members, after those that were written,
-- makes the whole. Assumes nothing.
use Rattle.write_bytes.proofs.Loop.{along_step, along_end, along_past}
use Rattle.write_types.proofs.MemberLaws.{members_next, members_none}
use Rattle.write_types.proofs.datatypes.put_members.Goals as goal

pub returns-then-is_past : goal.returns-then-is_past
returns-then-is_past c = along_past c.loop-i.invariant c.is_past.ensures c.if-is_past.true

pub loop-i-preserved : goal.loop-i-preserved
loop-i-preserved c = along_step c.loop-i.invariant (members_next _ _ _ c.loop-i-test.true) c.put_member.ensures

pub returns : goal.returns
returns c = along_end c.loop-i.invariant (members_none _ _ _ c.loop-i-test.false)
