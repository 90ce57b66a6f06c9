-- `walk_types::encode_type` and `walk_types::encode_types` meet their contracts: by recursion on the number, which falls from a type to its
-- parts. The loop's invariant: the parts that are left, after those that were encoded, make all. Assumes nothing.
use Rattle.walk_types.proofs.Walking.{encodes_type, parts_start, parts_on, parts_end, parts_never}
use Rattle.walk_types.proofs.+encode_type_encode_types.Goals as goal

pub encode_type-returns-then-is_left : goal.encode_type-returns-then-is_left
encode_type-returns-then-is_left t c = c.is_left.ensures.left c.if-is_left.true

pub encode_type-returns : goal.encode_type-returns
encode_type-returns t c =
    encodes_type (c.is_left.ensures.new c.if-is_left.false) (rw c.get-offset.ensures at c.parts_at-parts.ensures) c.encode_types.ensures c.declare_type.ensures

pub encode_types-loop-part-init : goal.encode_types-loop-part-init
encode_types-loop-part-init t c = (tt, tt, rw c.into_iter-part-iterator.ensures.into_iter_gives parts_start)

pub encode_types-returns-then-t-part : goal.encode_types-returns-then-t-part
encode_types-returns-then-t-part t c = parts_never c.loop-part.invariant.2 c.in-Some.ensures.steps c.if-t-part.true

pub encode_types-loop-part-preserved : goal.encode_types-loop-part-preserved
encode_types-loop-part-preserved t c = (tt, tt, parts_on c.loop-part.invariant.2 c.in-Some.ensures.steps c.if-t-part.false c.encode_type.ensures)

pub encode_types-returns : goal.encode_types-returns
encode_types-returns t c = parts_end c.loop-part.invariant.2 c.in-None.ensures.steps.0
