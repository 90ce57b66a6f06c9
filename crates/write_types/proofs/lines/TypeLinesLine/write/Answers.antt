-- `write_types::lines::TypeLinesLine::write` meets its contract: each type by its arm.
-- Assumes nothing.
use Rattle.write_types.proofs.TypeLaws.{spells_entity, spells_ext, spells_record_type, spells_none}
use Rattle.write_types.proofs.lines.TypeLinesLine.write.Goals as goal

pub returns-in-Entity : goal.returns-in-Entity
returns-in-Entity c = spells_entity _ c.type_at.ensures c.in-Entity.is c.get-name.ensures c.get-i.ensures c.declare_entity_type.ensures

pub returns-in-Ext : goal.returns-in-Ext
returns-in-Ext c = spells_ext _ c.type_at.ensures c.in-Ext.is c.declare_ext_type.ensures

pub returns-in-Record : goal.returns-in-Record
returns-in-Record c = spells_record_type _ c.type_at.ensures _ c.in-Record.is c.get-name.ensures c.declare_record_type.ensures

pub returns-in_default : goal.returns-in_default
returns-in_default c = spells_none _ c.in_default.not-Entity c.in_default.not-Ext c.in_default.not-Record c.type_at.ensures
