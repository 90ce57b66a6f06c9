-- The number of a function, tested or not.
-- Assumes nothing.
use Rattle.read_field.proofs.Laws.{handed_on, takes_next, refuses_stop, takes_pure}
use Rattle.read_operator.specs.Again.{count}
use Rattle.read_operator.specs.Operators.{op_of, uninterpreted}
use Rattle.read_operator.proofs.Again.{any_function, function_again, tested_if, untested}
use Rattle.read_operator.proofs.uuf.Goals as goal

pub returns-in_err-n : goal.returns-in_err-n
unfolding count uninterpreted
returns-in_err-n g c = rw (handed_on _ c.from_residual.ensures.1) (tested_if _ (λ b. uninterpreted (count b c.args.funs)) _ c.if-this-ne0.true (refuses_stop _ c.in_err-n.ensures))

pub returns-then-this-ne0 : goal.returns-then-this-ne0
unfolding count uninterpreted op_of
returns-then-this-ne0 g c = tested_if _ (λ b. uninterpreted (count b c.args.funs)) _ c.if-this-ne0.true (takes_next _ c.in_ok-n.ensures (takes_pure _))

pub returns-in_err-n-2 : goal.returns-in_err-n-2
unfolding any_function
returns-in_err-n-2 g c = rw (c.if-this-ne0.false, handed_on _ c.from_residual-in_err-n-2.ensures.1) (untested (function_again _ _ (refuses_stop _ c.in_err-n-2.ensures)))

pub returns : goal.returns
unfolding any_function op_of
returns g c = rw c.if-this-ne0.false (untested (function_again _ _ (takes_next _ c.in_ok-n-2.ensures (takes_pure _))))
