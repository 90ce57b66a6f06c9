-- The address bytes, and then the prefix.
-- Assumes nothing.
use Rattle.script_spec.specs.Fields.{address}
use Rattle.read_field.proofs.Laws.{handed_on, takes_next, refuses_next, refuses_stop, skims, skims_not, takes_pure}
use Rattle.read_record.specs.Fields.{addressed}
use Rattle.read_record.proofs.body.address.Goals as goal

pub returns-in_err-rest : goal.returns-in_err-rest
unfolding addressed address
returns-in_err-rest c = rw (handed_on _ c.from_residual.ensures.1) (refuses_stop _ (refuses_stop _ c.in_err-rest.ensures))

pub returns-in_err-prefix : goal.returns-in_err-prefix
unfolding addressed address
returns-in_err-prefix c = rw (handed_on _ c.from_residual-in_err-prefix.ensures.1) (refuses_next _ (takes_next _ c.in_ok-rest.ensures (takes_pure _)) (skims_not c.in_err-prefix.ensures.takes))

pub returns : goal.returns
unfolding addressed address
returns c = takes_next _ (takes_next _ c.in_ok-rest.ensures (takes_pure _)) (skims c.in_ok-prefix.ensures.takes)
