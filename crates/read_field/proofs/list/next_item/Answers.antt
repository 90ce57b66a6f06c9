-- By cases on what the items are.
-- Assumes nothing.
use Rattle.script_spec.specs.Fields.{pair}
use Rattle.read_field.specs.Items.{item_reader}
use Rattle.read_field.proofs.Laws.{handed_on, skims, skims_not, takes_next, refuses_next, refuses_stop, takes_pure}
use Rattle.read_field.proofs.list.next_item.Goals as goal

pub returns-in_err-text-in-Text : goal.returns-in_err-text-in-Text
unfolding item_reader
returns-in_err-text-in-Text c = rw (handed_on _ c.from_residual.ensures.1, c.in-Text.is) (skims_not c.in_err-text-in-Text.ensures)

pub returns-in_err-reference-in-Reference : goal.returns-in_err-reference-in-Reference
unfolding item_reader
returns-in_err-reference-in-Reference c = rw (handed_on _ c.from_residual-in_err-reference-in-Reference.ensures.1, c.in-Reference.is) (skims_not c.in_err-reference-in-Reference.ensures)

pub returns-in_err-text-in-Named : goal.returns-in_err-text-in-Named
unfolding item_reader pair
returns-in_err-text-in-Named c = rw (handed_on _ c.from_residual-in_err-text-in-Named.ensures.1, c.in-Named.is) (skims_not (refuses_stop _ c.in_err-text-in-Named.ensures))

pub returns-in_err-reference-in-Named : goal.returns-in_err-reference-in-Named
unfolding item_reader pair
returns-in_err-reference-in-Named c = rw (handed_on _ c.from_residual-in_err-reference-in-Named.ensures.1, c.in-Named.is) (skims_not (refuses_next _ c.in_ok-text-in-Named.ensures (refuses_stop _ c.in_err-reference-in-Named.ensures)))

pub returns-in_err-element-in-Element : goal.returns-in_err-element-in-Element
unfolding item_reader
returns-in_err-element-in-Element c = rw (handed_on _ c.from_residual-in_err-element-in-Element.ensures.1, c.in-Element.is) (skims_not c.in_err-element-in-Element.ensures)

pub returns-in_ok-text-in-Text : goal.returns-in_ok-text-in-Text
unfolding item_reader
returns-in_ok-text-in-Text c = rw c.in-Text.is (skims c.in_ok-text-in-Text.ensures)

pub returns-in_ok-reference-in-Reference : goal.returns-in_ok-reference-in-Reference
unfolding item_reader
returns-in_ok-reference-in-Reference c = rw c.in-Reference.is (skims c.in_ok-reference-in-Reference.ensures)

pub returns-in_ok-reference-in-Named : goal.returns-in_ok-reference-in-Named
unfolding item_reader pair
returns-in_ok-reference-in-Named c = rw c.in-Named.is (skims (takes_next _ c.in_ok-text-in-Named.ensures (takes_next _ c.in_ok-reference-in-Named.ensures (takes_pure _))))

pub returns-in_ok-element-in-Element : goal.returns-in_ok-element-in-Element
unfolding item_reader
returns-in_ok-element-in-Element c = rw c.in-Element.is (skims c.in_ok-element-in-Element.ensures)
