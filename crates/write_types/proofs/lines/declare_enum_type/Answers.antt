-- `write_types::lines::declare_enum_type` meets its contract: a line, and a line after it.
-- Assumes nothing.
use Rattle.write_types.proofs.LineLaws.{enum_lines}
use Rattle.write_types.proofs.MemberLaws.{enum_lent}
use Rattle.write_types.proofs.lines.declare_enum_type.Goals as goal

pub returns : goal.returns
returns c = enum_lines _ c.get.ensures c.enum_at-members.ensures c.put_enum_comment.ensures (enum_lent c.lend.ensures)
