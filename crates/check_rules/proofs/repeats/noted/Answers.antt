-- The references that were passed have a note.
-- Assumes nothing.
use native.Mathlib.Omega.{arith}
use Rattle.check_rules.proofs.AllNoted.{none_asked, asked_more, one_lacks, all_asked}
use Rattle.check_rules.proofs.repeats.noted.Goals as goal

pub loop-i-init : goal.loop-i-init
loop-i-init c = none_asked

pub returns-then-get-eq0 : goal.returns-then-get-eq0
returns-then-get-eq0 c = one_lacks c.first_at-f.ensures c.get.ensures c.loop-i-test.true c.if-get-eq0.true

pub loop-i-preserved : goal.loop-i-preserved
loop-i-preserved c = asked_more c.first_at-f.ensures c.get.ensures c.loop-i.invariant c.if-get-eq0.false

pub returns : goal.returns
returns c = all_asked c.loop-i.invariant (omega (arith, c.loop-i-test.false, c.loop-i.auto))
