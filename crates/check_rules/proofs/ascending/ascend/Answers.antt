-- The first text, and the others after it.
-- Assumes nothing.
use native.Mathlib.Omega.{arith}
use Rattle.check_rules.proofs.Decided.{decides_none, decides_next, decides_bad}
use Rattle.check_rules.proofs.Ordered.{ascending_none, ascending_first}
use Rattle.check_rules.proofs.ascending.ascend.Goals as goal

pub returns-then-count-eq0 : goal.returns-then-count-eq0
returns-then-count-eq0 g c = decides_none c.if-count-eq0.true ascending_none

pub returns-in_default : goal.returns-in_default
returns-in_default g c = decides_bad _ (omega (arith, c.if-count-eq0.false)) c.in_default.ensures

pub returns : goal.returns
returns g c = decides_next (omega (arith, c.if-count-eq0.false)) c.in-Ok.ensures (record { go = λ ts rest e. ascending_first _ ts }) c.ascend_after.ensures
