-- `walk_types::parts::parts_at` meets its contract: each type by its arm.
-- Assumes nothing.
use Rattle.walk_types.proofs.PartLaws.{alone_at, listed_at, none_at}
use Rattle.walk_types.proofs.parts.parts_at.Goals as goal

pub returns-in-Option : goal.returns-in-Option
returns-in-Option c = alone_at c.type_at.ensures c.body_at-body.ensures c.in-Option.is c.alone.ensures

pub returns-in-Record : goal.returns-in-Record
returns-in-Record c = listed_at c.type_at.ensures c.in-Record.is

pub returns-in_default : goal.returns-in_default
returns-in_default c = none_at c.type_at.ensures c.in_default.not-Option c.in_default.not-Set c.in_default.not-Record c.none.ensures
