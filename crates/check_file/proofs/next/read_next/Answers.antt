-- The record is read with the offsets of the types, as the index has them.
-- Assumes nothing.
use Rattle.check_file.proofs.Following.{reads_next}
use Rattle.check_file.proofs.next.read_next.Goals as goal

pub returns : goal.returns
returns c = reads_next _ _ c.type_offsets.ensures c.next_record.ensures
