-- `walk_types::encode_type` and `walk_types::encode_types` meet their contracts: by recursion on the number, which falls from a type to its
-- parts. The loop's invariant: the parts that are left, after those that were encoded, make all. Assumes nothing.
use Prim.Native.Nat.{◌+◌, ◌*◌}
use Rattle.index_entry.specs.Terms.{children_in}
use Rattle.walk_types.proofs.Walking.{PartsLeft}
use Rattle.walk_types.proofs.+encode_type_encode_types.Given as goal

abbrev pub decreases-encode_type : goal.decreases-encode_type
decreases-encode_type l = l.t * 2 + 1

abbrev pub decreases-encode_types : goal.decreases-encode_types
decreases-encode_types l = l.t * 2

abbrev pub invariant-encode_types-loop-part : goal.invariant-encode_types-loop-part
invariant-encode_types-loop-part l =
    (goal.iterator-encode_types-loop-part).can_next l.part-iterator × (goal.iterator-encode_types-loop-part).is_finite l.part-iterator
    × PartsLeft l.t (children_in l.fn.parts) l.initial.walk l.walk (children_in l.part-iterator)
