-- `walk_queries::lists::make_lists` meets its contract: a list, or an enum, more at each turn.
-- Assumes nothing.
use native.Mathlib.Omega.{arith}
use Rattle.walk_queries.proofs.LoopLaws.{listing_made}
use Rattle.walk_queries.proofs.lists.make_lists.Goals as goal

pub returns-clause-made : goal.returns-clause-made
returns-clause-made c = listing_made c.loop-e.invariant (omega (arith, c.loop-e.auto.e-end, c.loop-e-test.false))
