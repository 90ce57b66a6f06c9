-- `write_types::datatypes::put_member` meets its contract.
-- Assumes nothing.
use Rattle.script_spec.specs.Base.{bytes}
use Rattle.write_bytes.proofs.Laws.{◌then◌, says}
use Rattle.write_types.specs.Members.{entity_symbol}
use Rattle.write_types.proofs.MemberLaws.{member_pieces}
use Rattle.write_types.proofs.datatypes.put_member.Goals as goal

pub returns : goal.returns
unfolding bytes entity_symbol
returns c = says (member_pieces _ _) (c.put.ensures then c.put_name.ensures then c.put-2.ensures then (rw (← c.from.ensures) c.put_decimal.ensures) then c.put_byte.ensures)
