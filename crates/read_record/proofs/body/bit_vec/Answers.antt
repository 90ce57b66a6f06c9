-- The width, and then the value.
-- Assumes nothing.
use Rattle.read_field.proofs.Laws.{handed_on, next, refuses_stop}
use Rattle.read_record.specs.Fields.{bit_vec_field}
use Rattle.read_record.proofs.body.bit_vec.Goals as goal

pub returns-in_err-width : goal.returns-in_err-width
unfolding bit_vec_field
returns-in_err-width c = rw (handed_on _ c.from_residual.ensures.1) (refuses_stop _ c.in_err-width.ensures)

pub returns : goal.returns
unfolding bit_vec_field
returns c = next _ _ c.in_ok-width.ensures c.below.ensures
