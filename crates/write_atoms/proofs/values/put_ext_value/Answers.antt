-- `write_atoms::values::put_ext_value` meets its contract: each value by its arm.
-- Assumes nothing.
use Rattle.script_spec.specs.Base.{bytes}
use Rattle.write_bytes.proofs.Laws.{says}
use Rattle.index_entry.specs.Terms.{value_of}
use Rattle.write_atoms.proofs.ValueLaws.{v4_pieces, v6_pieces, decimal_pieces, datetime_pieces, duration_pieces}
use Rattle.write_atoms.proofs.values.put_ext_value.Goals as goal

pub returns-in-V4 : goal.returns-in-V4
unfolding bytes value_of
returns-in-V4 c = says (rw (c.in-V4.is, c.from.ensures) (v4_pieces _ _)) c.put_address.ensures

pub returns-in-V6 : goal.returns-in-V6
unfolding bytes value_of
returns-in-V6 c = says (rw c.in-V6.is (v6_pieces _ _)) c.put_address-in-V6.ensures

pub returns-in-Decimal : goal.returns-in-Decimal
unfolding bytes value_of
returns-in-Decimal c = says (rw c.in-Decimal.is (decimal_pieces _)) c.put_number.ensures

pub returns-in-Datetime : goal.returns-in-Datetime
unfolding bytes value_of
returns-in-Datetime c = says (rw c.in-Datetime.is (datetime_pieces _)) c.put_number-in-Datetime.ensures

pub returns-in-Duration : goal.returns-in-Duration
unfolding bytes value_of
returns-in-Duration c = says (rw c.in-Duration.is (duration_pieces _)) c.put_number-in-Duration.ensures
