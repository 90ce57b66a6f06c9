-- Whatever the items that are left tell, all items tell from the start.
-- Assumes nothing.
use Prim.Native.Nat.{◌-◌}
use Rattle.read_field.specs.Items.{item_reader}
use Rattle.read_field.proofs.Laws.{Goes}
use Rattle.read_field.proofs.list.items.Given as goal

abbrev pub invariant-loop : goal.invariant-loop
invariant-loop l = Goes (item_reader l.item) l.count l.c (l.count - l.counter) l.rest
