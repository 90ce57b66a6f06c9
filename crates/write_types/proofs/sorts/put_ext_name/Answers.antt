-- `write_types::sorts::put_ext_name` meets its contract: each name by its arm.
-- Assumes nothing.
use Rattle.script_spec.specs.Base.{bytes}
use Rattle.script_spec.specs.Spelling.{ext_name}
use Rattle.write_bytes.proofs.Laws.{says}
use Rattle.index_entry.specs.Types.{ext_type_said}
use Rattle.write_types.proofs.sorts.put_ext_name.Goals as goal

pub returns-in-IPAddr : goal.returns-in-IPAddr
unfolding bytes ext_name ext_type_said
returns-in-IPAddr c = says (rw c.in-IPAddr.is) c.put.ensures

pub returns-in-Decimal : goal.returns-in-Decimal
unfolding bytes ext_name ext_type_said
returns-in-Decimal c = says (rw c.in-Decimal.is) c.put-in-Decimal.ensures

pub returns-in-Datetime : goal.returns-in-Datetime
unfolding bytes ext_name ext_type_said
returns-in-Datetime c = says (rw c.in-Datetime.is) c.put-in-Datetime.ensures

pub returns-in-Duration : goal.returns-in-Duration
unfolding bytes ext_name ext_type_said
returns-in-Duration c = says (rw c.in-Duration.is) c.put-in-Duration.ensures
