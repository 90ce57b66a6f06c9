-- What the loops of `make_lists` keep: the lists so far, of the records as they were.
-- Assumes nothing.
use Rattle.walk_queries.proofs.LoopLaws.{ListingTypes, ListingEnums}
use Rattle.walk_queries.proofs.lists.make_lists.Given as goal

abbrev pub invariant-loop-t : goal.invariant-loop-t
invariant-loop-t l = ListingTypes l.fn.records l.records l.t l.next

abbrev pub invariant-loop-e : goal.invariant-loop-e
invariant-loop-e l = ListingEnums l.fn.records l.records l.e l.next
