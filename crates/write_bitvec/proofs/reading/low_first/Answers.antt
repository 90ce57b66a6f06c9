-- `write_bitvec::reading::low_first` meets its contract: 16 bytes are the number at once, and of fewer the loop keeps `Low`.
-- Assumes nothing.
use native.Mathlib.Omega.{arith}
use borrow.Author.Rules.{rules}
use Rattle.write_bitvec.proofs.Bytes.{low_whole, low_start, low_fits, low_next}
use Rattle.write_bitvec.proofs.reading.low_first.Goals as goal

pub loop-byte-init : goal.loop-byte-init
loop-byte-init c = low_start (rw (c.into_iter-byte-iterator.ensures.into_iter_gives, c.rev-byte-items.ensures.source, c.iter.ensures.rest) (search rules))

pub overflow_mul-v : goal.overflow_mul-v
overflow_mul-v c = record { fits = omega (arith, low_fits c.args.s.now c.next.new.self.iter.rest.now c.in-Some-byte.byte.now (λ i. (c.type_inv.s i).fits) c.loop-byte.invariant c.in-Some-byte.ensures.steps) }

pub overflow_add-v : goal.overflow_add-v
overflow_add-v c = record { fits = rw c.from.ensures (low_fits c.args.s.now c.next.new.self.iter.rest.now c.in-Some-byte.byte.now (λ i. (c.type_inv.s i).fits) c.loop-byte.invariant c.in-Some-byte.ensures.steps) }

pub loop-byte-preserved : goal.loop-byte-preserved
loop-byte-preserved c = rw c.from.ensures (low_next c.args.s.now c.next.new.self.iter.rest.now c.in-Some-byte.byte.now (λ i. (c.type_inv.s i).fits) c.loop-byte.invariant c.in-Some-byte.ensures.steps)

pub returns-in-Some : goal.returns-in-Some
returns-in-Some c = let first = c.in-Some.ensures.cases in low_whole c.args.s.now first.enough (rw first.same at c.from_le_bytes.ensures)
