-- `walk_names::naming::put_name` meets its contract: nothing, or the letter and then the number.
-- Assumes nothing.
use Rattle.write_bytes.proofs.Laws.{◌then◌, says, nothing}
use Rattle.walk_names.proofs.Names.{numbered_some, numbered_none}
use Rattle.walk_names.proofs.naming.put_name.Goals as goal

pub returns-in-Some : goal.returns-in-Some
returns-in-Some c = says (numbered_some _ _ c.in-Some.is) (c.put_byte.ensures then rw (← c.from.ensures) c.put_decimal.ensures)

pub returns-in_default : goal.returns-in_default
returns-in_default c = says (numbered_none _ c.in_default.is) nothing
