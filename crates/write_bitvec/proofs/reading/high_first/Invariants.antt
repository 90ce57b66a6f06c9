-- `write_bitvec::reading::high_first` meets its contract: the loop keeps `High`.
-- Assumes nothing.
use mathlib.Core.Path.{◌≡◌}
use lib.ListN.{take}
use Rattle.write_bitvec.proofs.Bytes.{High}
use Rattle.write_bitvec.proofs.reading.high_first.Given as goal

abbrev pub invariant-loop-byte : goal.invariant-loop-byte
invariant-loop-byte l = High l.byte-items l.v l.byte-index × (l.byte-items ≡ take 16 l.s)
