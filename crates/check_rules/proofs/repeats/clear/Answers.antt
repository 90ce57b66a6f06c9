-- The notes from the reference i on are cleared.
-- Assumes nothing.
use mathlib.Core.Path.{refl}
use native.Mathlib.Omega.{arith}
use Rattle.check_rules.proofs.Noting.{clearing_start, clearing_more, clearing_end}
use Rattle.check_rules.proofs.repeats.clear.Goals as goal

pub loop-i-init : goal.loop-i-init
loop-i-init c = clearing_start refl

pub loop-i-preserved : goal.loop-i-preserved
loop-i-preserved c = clearing_more c.loop-i.invariant c.view.result (omega (arith, c.loop-i-test.true)) c.view.ensures c.first_at-f.ensures c.set.ensures

pub returns : goal.returns
returns c = clearing_end c.loop-i.invariant (omega (arith, c.loop-i-test.false))
