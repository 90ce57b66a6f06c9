-- `index_entry::records::number_at` meets its contract: the number, or 0 where bytes are missing.
-- Assumes nothing.
use Rattle.index_entry.proofs.Places.{number_read, number_short}
use Rattle.index_entry.proofs.records.number_at.Goals as goal

pub returns-in-Ok : goal.returns-in-Ok
returns-in-Ok c = number_read _ _ (rw c.in-Ok.is at c.u32_le.ensures).reads

pub returns-in-Err : goal.returns-in-Err
returns-in-Err c = number_short _ _ (rw c.in-Err.is at c.u32_le.ensures).reads
