-- A byte below the bound.
-- Assumes nothing.
use Rattle.read_field.specs.Reads.{code}
use Rattle.refusal.specs.Numbers.{number}
use Rattle.read_field.proofs.Laws.{handed_on, next, refuses_stop}
use Rattle.read_field.proofs.Cursor.code.Goals as goal

pub returns-in_err-n : goal.returns-in_err-n
unfolding code number
returns-in_err-n c = rw (handed_on _ c.from_residual.ensures.1) (refuses_stop _ c.in_err-n.ensures)

pub returns : goal.returns
unfolding code number
returns c = next _ _ c.in_ok-n.ensures c.ensured.ensures
