-- A byte below the bound, or 255.
-- Assumes nothing.
use borrow.Author.Tests.{ne_eqb, lt-ltb, le-ltb}
use Rattle.script_spec.specs.Fields.{prefix}
use Rattle.refusal.specs.declared.Refusal.TheVariants.{OutOfRange}
use Rattle.refusal.specs.Numbers.{number}
use Rattle.read_field.specs.Takes.{prefix_number, IsPrefix}
use Rattle.read_field.proofs.Laws.{handed_on, takes_next, refuses_next, refuses_stop, takes_ensured, takes_refused, below_or}
use Rattle.read_field.proofs.Cursor.prefix.Goals as goal

pub returns-in_err-n-clause-takes : goal.returns-in_err-n-clause-takes
unfolding prefix
returns-in_err-n-clause-takes c = rw (handed_on _ c.from_residual.ensures.1) (refuses_stop _ c.in_err-n.ensures)

pub returns-then-n-eq-NO_PREFIX-clause-takes : goal.returns-then-n-eq-NO_PREFIX-clause-takes
unfolding prefix prefix_number
returns-then-n-eq-NO_PREFIX-clause-takes c = let e = c.if-n-eq-NO_PREFIX.true in takes_next _ (rw e at c.in_ok-n.ensures) (takes_ensured _ _ _ (below_or _))

pub returns-then-n-bound-clause-takes : goal.returns-then-n-bound-clause-takes
unfolding prefix prefix_number
returns-then-n-bound-clause-takes c = takes_next _ c.in_ok-n.ensures (takes_ensured _ _ _ (rw (lt-ltb _ _ c.if-n-bound.true)))

pub returns-else-n-bound-clause-takes : goal.returns-else-n-bound-clause-takes
unfolding prefix number
returns-else-n-bound-clause-takes c = refuses_next _ c.in_ok-n.ensures (takes_refused OutOfRange _ _ (rw (le-ltb _ _ c.if-n-bound.false, ne_eqb _ _ c.if-n-eq-NO_PREFIX.false)))

pub returns-in_err-n-clause-given : goal.returns-in_err-n-clause-given
returns-in_err-n-clause-given c = rw (handed_on _ c.from_residual.ensures.1) tt

pub returns-then-n-eq-NO_PREFIX-clause-given : goal.returns-then-n-eq-NO_PREFIX-clause-given
unfolding IsPrefix
returns-then-n-eq-NO_PREFIX-clause-given c = tt

pub returns-then-n-bound-clause-given : goal.returns-then-n-bound-clause-given
unfolding IsPrefix
returns-then-n-bound-clause-given c = c.if-n-eq-NO_PREFIX.false
