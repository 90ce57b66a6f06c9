-- `write_bytes::writer::copy` meets its contract: after i turns the first i bytes are those of the text.
-- Assumes nothing.
use mathlib.Core.Path.{◌≡◌}
use lib.ListN.{length, take}
use Rattle.write_bytes.proofs.writer.copy.Given as goal

abbrev pub invariant-loop-i : goal.invariant-loop-i
invariant-loop-i l = (take l.i l.out ≡ take l.i l.s) × (length l.out ≡ length l.initial.out)
