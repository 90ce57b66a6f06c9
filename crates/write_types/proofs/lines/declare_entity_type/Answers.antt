-- `write_types::lines::declare_entity_type` meets its contract.
-- Assumes nothing.
use Rattle.write_types.proofs.LineLaws.{entity_enum, entity_plain}
use Rattle.write_types.proofs.lines.declare_entity_type.Goals as goal

pub returns-then-i-records : goal.returns-then-i-records
returns-then-i-records c = entity_enum _ _ c.if-i-records.true c.declare_enum_type.ensures

pub returns-else-i-records : goal.returns-else-i-records
returns-else-i-records c = entity_plain _ _ c.if-i-records.false c.declare_plain_type.ensures
