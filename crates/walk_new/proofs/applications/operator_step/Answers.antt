-- `walk_new::applications::operator_step` meets its contract: each operator by its arm.
-- Assumes nothing.
use Rattle.walk_new.proofs.OperatorLaws.{asks_attribute, asks_pattern, asks_fun, asks_none}
use Rattle.walk_new.proofs.applications.operator_step.Goals as goal

pub returns-in-RecordGet : goal.returns-in-RecordGet
returns-in-RecordGet c = asks_attribute c.in-RecordGet.is c.record_get.ensures

pub returns-in-StringLike : goal.returns-in-StringLike
returns-in-StringLike c = asks_pattern _ c.in-StringLike.is c.first_high-high.ensures c.refuse_high.ensures

pub returns-in-Uuf : goal.returns-in-Uuf
returns-in-Uuf c = asks_fun c.in-Uuf.is c.encode_uuf.ensures

pub returns-in_default : goal.returns-in_default
returns-in_default c = asks_none c.in_default.not-RecordGet c.in_default.not-StringLike c.in_default.not-Uuf
