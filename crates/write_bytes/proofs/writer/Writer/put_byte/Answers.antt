-- `write_bytes::writer::Writer::put_byte` meets its contract: the byte is stored at its place, or there is no room for it.
-- Assumes nothing.
use native.Mathlib.Omega.{arith}
use Rattle.write_bytes.proofs.Put.{byte_writes, past_writes}
use Rattle.write_bytes.proofs.writer.Writer.put_byte.Goals as goal

pub returns-then-self-end : goal.returns-then-self-end
returns-then-self-end c = byte_writes (omega arith) c.end.ensures c.if-self-end.true

pub returns : goal.returns
returns c = past_writes (omega arith) c.end.ensures c.if-self-end.false c.after-self.ensures
