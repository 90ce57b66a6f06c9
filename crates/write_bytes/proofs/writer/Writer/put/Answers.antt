-- `write_bytes::writer::Writer::put` meets its contract: the text continues what was written before.
-- Assumes nothing.
use mathlib.Core.Path.{refl, sym, ◌∙◌}
use native.Mathlib.Omega.{arith}
use lib.ListN.{length}
use lib.Seq.{take_all}
use Rattle.write_bytes.proofs.Put.{put_writes}
use Rattle.write_bytes.proofs.writer.Writer.put.Goals as goal

pub returns-then-s-end : goal.returns-then-s-end
returns-then-s-end c =
    put_writes {k = length c.args.s.now} (omega arith) c.end-end.ensures c.min-from.ensures (omega arith) (omega arith) (c.copy.ensures ∙ sym (take_all _ _ (omega arith))) refl
