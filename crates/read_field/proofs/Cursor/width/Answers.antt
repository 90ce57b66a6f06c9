-- A number from 1 to 128.
-- Assumes nothing.
use Rattle.script_spec.specs.Fields.{width}
use Rattle.refusal.specs.Numbers.{number}
use Rattle.read_field.proofs.Laws.{handed_on, next, refuses_stop}
use Rattle.read_field.proofs.Cursor.width.Goals as goal

pub returns-in_err-n : goal.returns-in_err-n
unfolding width number
returns-in_err-n c = rw (handed_on _ c.from_residual.ensures.1) (refuses_stop _ c.in_err-n.ensures)

pub returns : goal.returns
unfolding width number
returns c = next _ _ c.in_ok-n.ensures (rw c.is_width.ensures at c.ensured.ensures)
