-- `encoder::assertions::put_assertions` meets its contract: the loop has written the assertions of the inputs before its count.
-- Assumes nothing.
use native.Mathlib.Omega.{arith}
use Rattle.walk_names.proofs.Spelling.{spells_lent}
use Rattle.encoder.proofs.AssertionLaws.{asserting_start, asserting_on, asserting_past, asserting_end}
use Rattle.encoder.proofs.assertions.put_assertions.Goals as goal

pub loop-i-init : goal.loop-i-init
loop-i-init c = asserting_start _ _

pub loop-i-preserved : goal.loop-i-preserved
loop-i-preserved c = asserting_on _ c.loop-i.invariant (omega (arith, c.loop-i-test.true)) c.get-number.ensures (spells_lent c.lend.ensures)

pub returns-then-is_past : goal.returns-then-is_past
returns-then-is_past c = asserting_past _ c.loop-i.invariant c.is_past.ensures c.if-is_past.true

pub returns : goal.returns
returns c = asserting_end _ c.loop-i.invariant (omega (arith, c.loop-i-test.false))
