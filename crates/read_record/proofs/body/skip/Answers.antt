-- Each kind of field by its own reader.
-- Assumes nothing.
use Rattle.read_field.proofs.Laws.{handed_on, skims, skims_not, takes_pure}
use Rattle.read_record.specs.Fields.{field_reader}
use Rattle.read_record.proofs.body.skip.Goals as goal

pub returns-in_err-text-in-Text : goal.returns-in_err-text-in-Text
unfolding field_reader
returns-in_err-text-in-Text c = rw (handed_on _ c.from_residual.ensures.1, c.in-Text.is) (skims_not c.in_err-text-in-Text.ensures)

pub returns-in_ok-text-in-Text : goal.returns-in_ok-text-in-Text
unfolding field_reader
returns-in_ok-text-in-Text c = rw c.in-Text.is (skims c.in_ok-text-in-Text.ensures)

pub returns-in_err-width-in-Width : goal.returns-in_err-width-in-Width
unfolding field_reader
returns-in_err-width-in-Width c = rw (handed_on _ c.from_residual-in_err-width-in-Width.ensures.1, c.in-Width.is) (skims_not c.in_err-width-in-Width.ensures)

pub returns-in_ok-width-in-Width : goal.returns-in_ok-width-in-Width
unfolding field_reader
returns-in_ok-width-in-Width c = rw c.in-Width.is (skims c.in_ok-width-in-Width.ensures)

pub returns-in_err-code-in-Code : goal.returns-in_err-code-in-Code
unfolding field_reader
returns-in_err-code-in-Code c = rw (handed_on _ c.from_residual-in_err-code-in-Code.ensures.1, c.in-Code.is) (skims_not c.in_err-code-in-Code.ensures)

pub returns-in_ok-code-in-Code : goal.returns-in_ok-code-in-Code
unfolding field_reader
returns-in_ok-code-in-Code c = rw c.in-Code.is (skims c.in_ok-code-in-Code.ensures)

pub returns-in_err-reference-in-Reference : goal.returns-in_err-reference-in-Reference
unfolding field_reader
returns-in_err-reference-in-Reference c = rw (handed_on _ c.from_residual-in_err-reference-in-Reference.ensures.1, c.in-Reference.is) (skims_not c.in_err-reference-in-Reference.ensures)

pub returns-in_ok-reference-in-Reference : goal.returns-in_ok-reference-in-Reference
unfolding field_reader
returns-in_ok-reference-in-Reference c = rw c.in-Reference.is (skims c.in_ok-reference-in-Reference.ensures)

pub returns-in_err-operator-in-Operator : goal.returns-in_err-operator-in-Operator
unfolding field_reader
returns-in_err-operator-in-Operator c = rw (handed_on _ c.from_residual-in_err-operator-in-Operator.ensures.1, c.in-Operator.is) (skims_not c.in_err-operator-in-Operator.ensures)

pub returns-in_ok-operator-in-Operator : goal.returns-in_ok-operator-in-Operator
unfolding field_reader
returns-in_ok-operator-in-Operator c = rw c.in-Operator.is (skims c.in_ok-operator-in-Operator.ensures)

pub returns-in-Entity : goal.returns-in-Entity
unfolding field_reader
returns-in-Entity c = rw c.in-Entity.is c.entity.ensures

pub returns-in-Number : goal.returns-in-Number
unfolding field_reader
returns-in-Number c = rw c.in-Number.is c.bit_vec.ensures

pub returns-in-Value : goal.returns-in-Value
unfolding field_reader
returns-in-Value c = rw c.in-Value.is c.ext_value.ensures

pub returns-in-List : goal.returns-in-List
unfolding field_reader
returns-in-List c = rw c.in-List.is c.list.ensures

pub returns-in-Nothing : goal.returns-in-Nothing
unfolding field_reader
returns-in-Nothing c = rw c.in-Nothing.is (takes_pure tt)
