-- What the texts that are left decide, all of them decide from the first on.
-- Assumes nothing.
use mathlib.Core.Path.{◌∙◌}
use native.Mathlib.Omega.{arith}
use Rattle.check_rules.proofs.Decided.{going_start, going_on, decides_none, decides_first, decides_bad}
use Rattle.check_rules.proofs.Texts.{before_is}
use Rattle.check_rules.proofs.Ordered.{after_next, after_stop, after_none}
use Rattle.check_rules.proofs.ascending.ascend_after.Goals as goal

pub loop-init : goal.loop-init
loop-init g c = going_start (omega arith)

pub returns-in_default : goal.returns-in_default
returns-in_default g c = (c.loop.invariant).go _ (decides_bad _ (omega (arith, c.loop-test.true)) c.in_default.ensures)

pub returns-then-not-lt : goal.returns-then-not-lt
returns-then-not-lt g c = (c.loop.invariant).go _ (decides_first (omega (arith, c.loop-test.true)) c.in-Ok.ensures (record { go = λ ts rest e. after_stop _ _ (c.lt.ensures ∙ before_is _ _) c.if-not-lt.true ts }))

pub loop-preserved : goal.loop-preserved
loop-preserved g c = going_on (omega (arith, c.loop-test.true)) c.loop.invariant c.in-Ok.ensures (record { go = λ ts rest e. after_next _ _ (c.lt.ensures ∙ before_is _ _) c.if-not-lt.false ts })

pub returns : goal.returns
returns g c = (c.loop.invariant).go _ (decides_none (omega (arith, c.loop-test.false)) (after_none _))
