-- The hash so far with the bytes that are left comes to the hash with all bytes.
-- Assumes nothing.
use mathlib.Core.Path.{◌≡◌}
use Prim.Native.Nat.{◌*◌, ◌<◌}
use lib.ListN.{length, drop}
use Rattle.index.specs.Names.{mixed_bytes}
use Rattle.index_search.proofs.hash.mix_bytes.Given as goal

abbrev pub invariant-loop-word : goal.invariant-loop-word
invariant-loop-word l = mixed_bytes l.key l.x (drop (4 * l.word-index) l.s) ≡ mixed_bytes l.key l.h l.s

abbrev pub invariant-loop-byte : goal.invariant-loop-byte
invariant-loop-byte l = (mixed_bytes l.key l.x (drop l.byte-index l.last) ≡ mixed_bytes l.key l.h l.s) × (length l.last < 4)
