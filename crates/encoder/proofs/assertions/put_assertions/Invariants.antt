-- `encoder::assertions::put_assertions` meets its contract: the loop has written the assertions of the inputs before its count.
-- Assumes nothing.
use Rattle.encoder.proofs.AssertionLaws.{Asserting}
use Rattle.encoder.proofs.assertions.put_assertions.Given as goal

abbrev pub invariant-loop-i : goal.invariant-loop-i
invariant-loop-i l = Asserting l.records l.initial.w l.i l.w
