-- `write_terms::lines::put_entity` meets its contract.
-- Assumes nothing.
use Rattle.walk_names.proofs.Spelling.{stopped}
use Rattle.write_terms.proofs.BodyLaws.{entity_constructed, entity_atom}
use Rattle.write_terms.proofs.lines.put_entity.Goals as goal

pub returns-then-is_past : goal.returns-then-is_past
returns-then-is_past c args = stopped c.is_past.ensures c.if-is_past.true

pub returns-in-NoEnum : goal.returns-in-NoEnum
returns-in-NoEnum c = entity_constructed c.find_member.ensures c.in-NoEnum.is c.put_constructed.ensures

pub returns-in_default : goal.returns-in_default
returns-in_default c = entity_atom c.find_member.ensures c.in_default.not-NoEnum c.put_atom.ensures
