-- `write_types::datatypes::put_ext_type` meets its contract: each declaration by its arm.
-- Assumes nothing.
use Rattle.script_spec.specs.Base.{bytes, joined}
use Rattle.script_spec.specs.Command.{spaced, constructor_list}
use Rattle.script_spec.specs.Spelling.{ext_name, ext_constructors}
use Rattle.write_bytes.proofs.Laws.{says}
use Rattle.index_entry.specs.Types.{ext_type_said}
use Rattle.write_types.proofs.datatypes.put_ext_type.Goals as goal

pub returns-in-IPAddr : goal.returns-in-IPAddr
unfolding bytes joined spaced constructor_list ext_name ext_constructors ext_type_said
returns-in-IPAddr c = says (rw c.in-IPAddr.is) c.put.ensures

pub returns-in-Decimal : goal.returns-in-Decimal
unfolding bytes joined spaced constructor_list ext_name ext_constructors ext_type_said
returns-in-Decimal c = says (rw c.in-Decimal.is) c.put-in-Decimal.ensures

pub returns-in-Datetime : goal.returns-in-Datetime
unfolding bytes joined spaced constructor_list ext_name ext_constructors ext_type_said
returns-in-Datetime c = says (rw c.in-Datetime.is) c.put-in-Datetime.ensures

pub returns-in-Duration : goal.returns-in-Duration
unfolding bytes joined spaced constructor_list ext_name ext_constructors ext_type_said
returns-in-Duration c = says (rw c.in-Duration.is) c.put-in-Duration.ensures
