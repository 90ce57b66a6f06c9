-- `write_types::records::put_part` meets its contract.
-- Assumes nothing.
use Rattle.script_spec.specs.Base.{bytes}
use Rattle.write_types.proofs.RecordLaws.{spells_part}
use Rattle.write_types.proofs.records.put_part.Goals as goal

pub returns : goal.returns
unfolding bytes
returns c = spells_part _ _ c.put_selector.ensures c.put_byte.ensures c.put_sort.ensures c.put_byte-2.ensures
