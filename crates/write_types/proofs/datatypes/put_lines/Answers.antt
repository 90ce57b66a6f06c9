-- `write_types::datatypes::put_lines` meets its contract.
-- Assumes nothing.
use Rattle.script_spec.specs.Base.{bytes}
use Rattle.write_types.proofs.MemberLaws.{lines_none, lines_some}
use Rattle.write_types.proofs.datatypes.put_lines.Goals as goal

pub returns-then-n-eq0 : goal.returns-then-n-eq0
unfolding bytes
returns-then-n-eq0 c = lines_none c.if-n-eq0.true c.put.ensures

pub returns : goal.returns
returns c = lines_some c.if-n-eq0.false c.put_members.ensures
