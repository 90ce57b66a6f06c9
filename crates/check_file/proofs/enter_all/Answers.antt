-- The loop over the records; its measure is what is left of the file.
-- Assumes nothing.
use native.Mathlib.Omega.{arith}
use Rattle.read_field.proofs.Laws.{handed_on}
use Rattle.check_file.proofs.Loop.{going_start, going_end, going_on, going_bad, going_further}
use Rattle.check_file.proofs.enter_all.Goals as goal

pub loop-at-init : goal.loop-at-init
loop-at-init c = going_start c.requires

pub loop-at-preserved : goal.loop-at-preserved
loop-at-preserved c = going_on c.loop-at.invariant c.in_ok-at.ensures

pub loop-at-smaller : goal.loop-at-smaller
loop-at-smaller c = omega (arith, going_further c.loop-at.invariant c.in_ok-at.ensures)

pub returns-in_err-at : goal.returns-in_err-at
returns-in_err-at c = rw (handed_on _ c.from_residual.ensures.1) (going_bad c.loop-at.invariant c.loop-at-test.true c.in_err-at.ensures)

pub returns : goal.returns
returns c = going_end c.loop-at.invariant c.loop-at-test.false
