-- The name of an attribute, tested or not.
-- Assumes nothing.
use Rattle.read_field.proofs.Laws.{handed_on, takes_next, refuses_next, refuses_stop, takes_pure}
use Rattle.read_operator.specs.Operators.{op_of, record_get_operand}
use Rattle.read_operator.proofs.Again.{any_attribute, counted, attribute_again, tested_if, untested}
use Rattle.read_operator.proofs.record_get.Goals as goal

pub returns-in_err-name : goal.returns-in_err-name
unfolding record_get_operand
returns-in_err-name g c = rw (handed_on _ c.from_residual.ensures.1) (tested_if _ (λ b. record_get_operand) _ c.if-this-ne0.true (refuses_stop _ c.in_err-name.ensures))

pub returns-then-this-ne0 : goal.returns-then-this-ne0
unfolding record_get_operand op_of
returns-then-this-ne0 g c = tested_if _ (λ b. record_get_operand) _ c.if-this-ne0.true (takes_next _ c.in_ok-name.ensures (takes_pure _))

pub returns-in_err-n : goal.returns-in_err-n
unfolding any_attribute counted
returns-in_err-n g c = rw (c.if-this-ne0.false, handed_on _ c.from_residual-in_err-n.ensures.1) (untested (attribute_again _ (refuses_stop _ (refuses_stop _ c.in_err-n.ensures))))

pub returns-in_err-name-2 : goal.returns-in_err-name-2
unfolding any_attribute counted
returns-in_err-name-2 g c = rw (c.if-this-ne0.false, handed_on _ c.from_residual-in_err-name-2.ensures.1) (untested (attribute_again _ (refuses_stop _ (refuses_next _ c.in_ok-n.ensures c.in_err-name-2.ensures))))

pub returns : goal.returns
unfolding any_attribute counted op_of
returns g c = rw c.if-this-ne0.false (untested (attribute_again _ (takes_next _ (takes_next _ c.in_ok-n.ensures c.in_ok-name-2.ensures) (takes_pure _))))
