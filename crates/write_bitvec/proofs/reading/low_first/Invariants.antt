-- `write_bitvec::reading::low_first` meets its contract: 16 bytes are the number at once, and of fewer the loop keeps `Low`.
-- Assumes nothing.
use lib.ListN.{take}
use Rattle.write_bitvec.proofs.Bytes.{Low}
use Rattle.write_bitvec.proofs.reading.low_first.Given as goal

abbrev pub invariant-loop-byte : goal.invariant-loop-byte
invariant-loop-byte l = Low (take 16 l.s) l.byte-iterator.iter.rest.now l.v
