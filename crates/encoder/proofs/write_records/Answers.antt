-- `encoder::write_records` meets its contract: the refusal of the walk, or the assertions after it.
-- Assumes nothing.
use Rattle.encoder.proofs.CloseLaws.{records_refused, records_written}
use Rattle.encoder.proofs.write_records.Goals as goal

pub returns-in-Err : goal.returns-in-Err
returns-in-Err c = let v = c.view.ensures in records_refused v.0 v.1 v.2 (rw c.in-Err.is at c.encode_inputs.ensures) c.refused_at.ensures

pub returns-in-Ok : goal.returns-in-Ok
returns-in-Ok c = let v = c.view-in-Ok.ensures in records_written v.0 v.1 v.2 (rw c.in-Ok.is at c.encode_inputs.ensures) c.put_assertions.ensures
