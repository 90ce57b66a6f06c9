-- A number that is the wildcard or a code point.
-- Assumes nothing.
use Rattle.script_spec.specs.Fields.{element}
use Rattle.read_field.specs.Reads.{is_element}
use Rattle.refusal.specs.Numbers.{number}
use Rattle.read_field.proofs.Laws.{handed_on, next, refuses_stop}
use Rattle.read_field.proofs.Cursor.element.Goals as goal

pub returns-in_err-n : goal.returns-in_err-n
unfolding element is_element number
returns-in_err-n c = rw (handed_on _ c.from_residual.ensures.1) (refuses_stop _ c.in_err-n.ensures)

pub returns : goal.returns
unfolding element is_element number
returns c = next _ _ c.in_ok-n.ensures (rw c.is_element.ensures at c.ensured.ensures)
