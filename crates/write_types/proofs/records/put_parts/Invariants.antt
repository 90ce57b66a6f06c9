-- `write_types::records::put_parts` meets its contract. The loop's invariant: the parts that are left, after those that were written, make
-- the whole. Assumes nothing.
use Rattle.std.specs.Iterator.Adapters.{enumerate_source, enumerate_count}
use Rattle.write_types.proofs.RecordLaws.{PartsLeft}
use Rattle.write_types.proofs.records.put_parts.Given as goal

abbrev pub invariant-loop-i : goal.invariant-loop-i
invariant-loop-i l =
    (goal.iterator-loop-i).is_finite l.i-iterator
    × PartsLeft l.records (record { name = l.name; attributes = l.fn.attributes }) l.initial.w l.w (enumerate_count l.i-iterator) (enumerate_source l.i-iterator)
