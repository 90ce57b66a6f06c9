-- `write_terms::applications::put_operator` meets its contract.
-- Assumes nothing.
use Rattle.write_terms.proofs.ApplicationLaws.{operator_like, operator_applied}
use Rattle.write_terms.proofs.applications.put_operator.Goals as goal

pub returns-in-StringLike : goal.returns-in-StringLike
returns-in-StringLike c = operator_like c.in-StringLike.is c.put_like.ensures

pub returns-in_default : goal.returns-in_default
returns-in_default c = operator_applied c.in_default.not-StringLike c.put_applied.ensures
