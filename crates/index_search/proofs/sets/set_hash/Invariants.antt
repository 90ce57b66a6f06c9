-- The sum so far with the elements that are left comes to the sum of all.
-- Assumes nothing.
use Rattle.index_search.proofs.SetLaws.{Summing}
use Rattle.index_search.proofs.sets.set_hash.Given as goal

abbrev pub invariant-loop-i : goal.invariant-loop-i
invariant-loop-i l = Summing l.set l.records.work.now l.records.sizes.rows l.key l.start l.sum l.i
