-- `write_terms::arguments::put_arguments` meets its contract. The loop's invariant: what writes the children that are left writes all.
-- Assumes nothing.
use Rattle.script_spec.specs.Base.{bytes}
use Rattle.write_terms.proofs.ArgumentLaws.{left_start, left_on, left_past, left_end}
use Rattle.write_terms.proofs.arguments.put_arguments.Goals as goal

pub loop-child-init : goal.loop-child-init
loop-child-init c = rw c.into_iter-child-iterator.ensures.into_iter_gives left_start

pub loop-child-preserved : goal.loop-child-preserved
unfolding bytes
loop-child-preserved c = left_on (rw c.in-Some.ensures.steps at c.loop-child.invariant) c.put_byte.ensures c.put_atom.ensures

pub returns-then-is_past : goal.returns-then-is_past
returns-then-is_past c = left_past c.loop-child.invariant c.is_past.ensures c.if-is_past.true

pub returns : goal.returns
returns c = left_end (rw c.in-None.ensures.steps.0 at c.loop-child.invariant)
