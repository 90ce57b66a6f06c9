-- The count of elements, and the elements, tested or not.
-- Assumes nothing.
use Rattle.script_spec.specs.Fields.{list}
use Rattle.read_field.proofs.Laws.{handed_on, takes_next, refuses_next, refuses_stop, takes_pure}
use Rattle.read_field.specs.Items.{item_reader}
use Rattle.read_operator.specs.Operators.{op_of, string_like}
use Rattle.read_operator.proofs.Laws.{takes_elements, elements_refused}
use Rattle.read_operator.proofs.Again.{any_pattern, pattern_again, by_any, tested_if, untested}
use Rattle.read_operator.proofs.string_like.Goals as goal

pub returns-in_err-n : goal.returns-in_err-n
unfolding string_like list
returns-in_err-n g c = rw (handed_on _ c.from_residual.ensures.1) (by_any _ _ (refuses_stop _ (refuses_stop _ c.in_err-n.ensures)))

pub returns-in_err-rest : goal.returns-in_err-rest
unfolding string_like list item_reader
returns-in_err-rest g c = rw (handed_on _ c.from_residual-in_err-rest.ensures.1) (tested_if _ (λ b. string_like) _ c.if-this-ne0.true (refuses_stop _ (refuses_next _ c.in_ok-n.ensures (elements_refused _ c.in_err-rest.ensures))))

pub returns-then-this-ne0 : goal.returns-then-this-ne0
unfolding string_like list op_of item_reader
returns-then-this-ne0 g c = tested_if _ (λ b. string_like) _ c.if-this-ne0.true (takes_next _ (takes_next _ c.in_ok-n.ensures (takes_elements _ c.part_of-elements.ensures c.in_ok-rest.ensures)) (takes_pure _))

pub returns-in_err-elements : goal.returns-in_err-elements
unfolding any_pattern
returns-in_err-elements g c = rw (c.if-this-ne0.false, handed_on _ c.from_residual-in_err-elements.ensures.1) (untested (pattern_again _ (refuses_next _ c.in_ok-n.ensures (refuses_stop _ c.in_err-elements.ensures))))

pub returns : goal.returns
unfolding any_pattern op_of
returns g c = rw c.if-this-ne0.false (untested (pattern_again _ (takes_next _ c.in_ok-n.ensures (takes_next _ c.in_ok-elements.ensures (takes_pure _)))))
