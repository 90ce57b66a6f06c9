-- `write_bytes::writer::write_line` meets its contract: the call has a writer over the whole buffer.
-- Assumes nothing.
use mathlib.Core.Path.{refl, sym}
use Rattle.std.proofs.Common.{rules}
use Rattle.write_bytes.proofs.writer.write_line.Goals as goal

pub returns : goal.returns
returns g c = record { rest = _; after = _; lent = refl; room_is = refl; starts = refl; wrote = c.write.ensures; holds = λ e. let h = sym e in search rules; size = search rules; place = refl }
