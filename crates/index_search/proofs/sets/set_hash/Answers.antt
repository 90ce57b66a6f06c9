-- The sum so far with the elements that are left comes to the sum of all.
-- Assumes nothing.
use mathlib.Core.Path.{refl}
use Rattle.index_search.proofs.SetLaws.{summing_start, summing_more, summing_end}
use Rattle.index_search.proofs.sets.set_hash.Goals as goal

pub loop-i-init : goal.loop-i-init
loop-i-init c = summing_start

pub loop-i-preserved : goal.loop-i-preserved
loop-i-preserved c = summing_more c.loop-i.invariant c.loop-i-test.true c.first_at-n.ensures c.element-more.ensures refl

pub returns : goal.returns
returns c = summing_end c.loop-i.invariant c.key-key.ensures c.get-ty.ensures c.set_start-start.ensures c.loop-i-test.false
