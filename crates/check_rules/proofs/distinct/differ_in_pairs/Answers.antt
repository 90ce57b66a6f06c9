-- What the references that are left decide, all of them decide.
-- Assumes nothing.
use mathlib.Core.Path.{◌≡◌}
use Prim.Native.Nat.{◌+◌, ◌-◌}
use native.Mathlib.Omega.{arith}
use Rattle.check_rules.proofs.Decided.{going_start, going_on, decides_none, decides_first, decides_bad}
use Rattle.check_rules.proofs.Elements.{differ_none, differ_next, differ_stop}
use Rattle.check_rules.proofs.distinct.differ_in_pairs.Goals as goal

pub loop-i-init : goal.loop-i-init
loop-i-init c = going_start (omega arith)

pub returns-in_default : goal.returns-in_default
returns-in_default c = (c.loop-i.invariant).go _ (decides_bad _ (omega (arith, c.loop-i-test.true)) c.in_default.ensures)

pub returns-then-any_first : goal.returns-then-any_first
returns-then-any_first c = (c.loop-i.invariant).go _ (decides_first (omega (arith, c.loop-i-test.true)) c.in-Ok.ensures (record { go = λ ts rest e. differ_stop _ _ _ c.get-first.ensures ts ((c.any_first.ensures).go ts rest e) c.if-any_first.true }))

pub loop-i-preserved : goal.loop-i-preserved
loop-i-preserved c =
    let same : c.args.count - (c.loop-i.i + 1) ≡ c.args.count - c.loop-i.i - 1 = omega arith in
    rw same (going_on (omega (arith, c.loop-i-test.true)) c.loop-i.invariant c.in-Ok.ensures (record { go = λ ts rest e. differ_next _ _ _ c.get-first.ensures ts ((c.any_first.ensures).go ts rest e) c.if-any_first.false }))

pub returns : goal.returns
returns c = (c.loop-i.invariant).go _ (decides_none (omega (arith, c.loop-i-test.false)) (differ_none _ _))
