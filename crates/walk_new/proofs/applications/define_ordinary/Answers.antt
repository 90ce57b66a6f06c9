-- `walk_new::applications::define_ordinary` meets its contract: what the operator asks for, and then the definition.
-- Assumes nothing.
use Rattle.read_field.proofs.Laws.{handed_on}
use Rattle.write_terms.specs.Definitions.{BodyIs}
use Rattle.walk_new.proofs.OperatorLaws.{ordinary_then, ordinary_stopped}
use Rattle.walk_new.proofs.applications.define_ordinary.Goals as goal

pub returns-in_err-operator_step : goal.returns-in_err-operator_step
returns-in_err-operator_step c = rw (handed_on _ c.from_residual.ensures.1) (ordinary_stopped (rw c.in_err-operator_step.was at c.operator_step.ensures))

pub returns : goal.returns
unfolding BodyIs
returns c = ordinary_then (rw c.in_ok-operator_step.was at c.operator_step.ensures) c.define.ensures
