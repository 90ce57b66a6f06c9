-- `write_bytes::writer::Writer::put_cut` meets its contract: what is copied continues what was written before.
-- Assumes nothing.
use native.Mathlib.Omega.{arith}
use Rattle.write_bytes.proofs.Put.{put_writes}
use Rattle.write_bytes.proofs.writer.Writer.put_cut.Goals as goal

pub returns : goal.returns
returns c = put_writes (omega arith) c.end-end.ensures c.min-from.ensures c.min-n.ensures (omega arith) c.copy.ensures (omega arith)
