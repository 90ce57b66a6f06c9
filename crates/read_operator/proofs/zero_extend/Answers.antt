-- A number of bits.
-- Assumes nothing.
use Rattle.read_field.proofs.Laws.{handed_on, takes_next, refuses_stop, takes_pure}
use Rattle.read_operator.specs.Operators.{op_of, zero_extend}
use Rattle.read_operator.proofs.zero_extend.Goals as goal

pub returns-in_err-n : goal.returns-in_err-n
unfolding zero_extend
returns-in_err-n c = rw (handed_on _ c.from_residual.ensures.1) (refuses_stop _ c.in_err-n.ensures)

pub returns : goal.returns
unfolding zero_extend op_of
returns c = takes_next _ c.in_ok-n.ensures (takes_pure _)
