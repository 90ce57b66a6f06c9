-- Whatever the items that are left tell, all items tell from the start.
-- Assumes nothing.
use native.Mathlib.Omega.{arith}
use Rattle.read_field.proofs.Laws.{handed_on, goes_start, goes_on, goes_stop, goes_end}
use Rattle.read_field.proofs.list.items.Goals as goal

pub loop-init : goal.loop-init
loop-init c = goes_start (omega arith)

pub returns-in_err-rest : goal.returns-in_err-rest
returns-in_err-rest c = rw (handed_on _ c.from_residual.ensures.1) (goes_stop c.loop.invariant (omega (arith, c.loop-test.true)) c.in_err-rest.ensures)

pub loop-preserved : goal.loop-preserved
loop-preserved c = goes_on c.loop.invariant (omega (arith, c.loop-test.true)) c.in_ok-rest.ensures

pub returns : goal.returns
returns c = goes_end c.loop.invariant (omega (arith, c.loop-test.false))
