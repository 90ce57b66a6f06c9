-- `write_types::records::put_selector` meets its contract.
-- Assumes nothing.
use Rattle.script_spec.specs.Base.{bytes}
use Rattle.script_spec.specs.Spelling.{attribute_name}
use Rattle.write_bytes.proofs.Laws.{◌then◌}
use Rattle.write_types.specs.Records.{record_name}
use Rattle.write_types.proofs.records.put_selector.Goals as goal

pub returns : goal.returns
unfolding bytes attribute_name record_name
returns c = c.put.ensures then c.put_name.ensures then c.put-2.ensures then c.put_decimal.ensures
