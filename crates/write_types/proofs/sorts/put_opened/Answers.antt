-- `write_types::sorts::put_opened` meets its contract.
-- Assumes nothing.
use Rattle.script_spec.specs.Base.{bytes}
use Rattle.write_bytes.proofs.Laws.{says}
use Rattle.write_types.specs.Sorts.{opened_part}
use Rattle.write_types.proofs.sorts.put_opened.Goals as goal

pub returns-in-Option : goal.returns-in-Option
unfolding bytes opened_part
returns-in-Option c = says (rw c.in-Option.is) c.put.ensures

pub returns-in-Set : goal.returns-in-Set
unfolding bytes opened_part
returns-in-Set c = says (rw c.in-Set.is) c.put-in-Set.ensures
