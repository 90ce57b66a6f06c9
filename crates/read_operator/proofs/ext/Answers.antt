-- The code of an extension operator, below ten.
-- Assumes nothing.
use mathlib.Core.Path.{refl}
use native.Mathlib.Nat.{le_trans}
use lib.Dec.{lit≤}
use Rattle.script_spec.specs.Fields.{pure, ext_op, coded}
use Rattle.refusal.specs.Numbers.{number}
use Rattle.read_field.proofs.Coded.{chosen_refused, at_map}
use Rattle.read_field.proofs.Laws.{handed_on, takes_next, refuses_next, refuses_stop, takes_pure}
use Rattle.read_field.specs.Reads.{chosen}
use Rattle.read_operator.specs.Operators.{op_of, ext_ops, ext_operator}
use Rattle.read_operator.proofs.Laws.{takes_chosen}
use Rattle.read_operator.proofs.ext.Goals as goal

pub returns-in_err-code : goal.returns-in_err-code
unfolding ext_operator ext_op coded
returns-in_err-code c = rw (handed_on _ c.from_residual.ensures.1) (refuses_stop _ (refuses_stop _ c.in_err-code.ensures))

pub returns-then-code-lt-EXT_OPS : goal.returns-then-code-lt-EXT_OPS
unfolding ext_operator ext_op coded chosen op_of ext_ops
returns-then-code-lt-EXT_OPS c = takes_next _ (takes_next _ c.in_ok-code.ensures (takes_chosen _ _ refl (at_map pure ext_ops _ _ (c.ext_of.ensures.is)) (takes_pure _))) (takes_pure _)

pub returns : goal.returns
unfolding ext_operator ext_op coded chosen number
returns c = refuses_stop _ (refuses_next _ c.in_ok-code.ensures (record { reads = chosen_refused _ _ (le_trans (lit≤ tt) c.if-code-lt-EXT_OPS.false) }))
