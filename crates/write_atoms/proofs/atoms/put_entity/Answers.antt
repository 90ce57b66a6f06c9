-- `write_atoms::atoms::put_entity` meets its contract.
-- Assumes nothing.
use Rattle.script_spec.specs.Base.{bytes}
use Rattle.walk_names.proofs.Spelling.{stopped}
use Rattle.write_atoms.proofs.QueryLaws.{entity_by_name, entity_stranger, entity_member, entity_noted}
use Rattle.write_atoms.proofs.atoms.put_entity.Goals as goal

pub returns-then-is_past : goal.returns-then-is_past
returns-then-is_past c = stopped c.is_past.ensures c.if-is_past.true

pub returns-in-Some : goal.returns-in-Some
unfolding bytes
returns-in-Some c = entity_noted c.put_numbered.ensures _ c.get-first.ensures c.get.ensures c.checked_sub-noted.ensures c.in-Some.is

pub returns-in-NoEnum : goal.returns-in-NoEnum
returns-in-NoEnum c = entity_by_name c.find_member.ensures c.in-NoEnum.is c.put_term_name.ensures

pub returns-in-NotMember : goal.returns-in-NotMember
returns-in-NotMember c = entity_stranger c.find_member.ensures c.in-NotMember.is

pub returns-in-At : goal.returns-in-At
unfolding bytes
returns-in-At c = entity_member c.find_member.ensures c.in-At.is c.put_numbered-in-At.ensures
