-- What the references that are left decide, all of them decide.
-- Assumes nothing.
use native.Mathlib.Omega.{arith}
use Rattle.check_rules.proofs.Decided.{going_start, going_on, decides_none, decides_first, decides_bad}
use Rattle.check_rules.proofs.Elements.{any_none, any_here, any_later}
use Rattle.check_rules.proofs.distinct.any_first.Goals as goal

pub loop-init : goal.loop-init
loop-init c = going_start (omega arith)

pub returns-in_default : goal.returns-in_default
returns-in_default c = (c.loop.invariant).go _ (decides_bad _ (omega (arith, c.loop-test.true)) c.in_default.ensures)

pub returns-then-get-first : goal.returns-then-get-first
returns-then-get-first c = (c.loop.invariant).go _ (decides_first (omega (arith, c.loop-test.true)) c.in-Ok.ensures (record { go = λ ts rest e. any_here _ _ _ c.get.ensures c.if-get-first.true ts }))

pub loop-preserved : goal.loop-preserved
loop-preserved c = going_on (omega (arith, c.loop-test.true)) c.loop.invariant c.in-Ok.ensures (record { go = λ ts rest e. any_later _ _ _ c.get.ensures c.if-get-first.false ts })

pub returns : goal.returns
returns c = (c.loop.invariant).go _ (decides_none (omega (arith, c.loop-test.false)) (any_none _ _ _))
