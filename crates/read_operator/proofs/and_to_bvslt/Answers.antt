-- Each code by its arm; the last arm has the code that is left.
-- Assumes nothing.
use mathlib.Core.Path.{refl}
use Prim.Native.Nat.{zero-le}
use Rattle.script_spec.specs.Base.{at}
use Rattle.script_spec.specs.Fields.{operators}
use Rattle.script_spec.specs.Tree as tree
use Rattle.read_operator.specs.Operators.{op_of}
use Rattle.read_operator.proofs.Laws.{operand_plain, past_last}
use Rattle.read_operator.proofs.and_to_bvslt.Goals as goal

pub returns-in-0 : goal.returns-in-0
unfolding op_of operators at
returns-in-0 c = operand_plain 0 tree.And c.in-0.is (λ funs. refl) refl

pub returns-in-1 : goal.returns-in-1
unfolding op_of operators at
returns-in-1 c = operand_plain 1 tree.Bvadd c.in-1.is (λ funs. refl) refl

pub returns-in-2 : goal.returns-in-2
unfolding op_of operators at
returns-in-2 c = operand_plain 2 tree.Bvlshr c.in-2.is (λ funs. refl) refl

pub returns-in-3 : goal.returns-in-3
unfolding op_of operators at
returns-in-3 c = operand_plain 3 tree.Bvmul c.in-3.is (λ funs. refl) refl

pub returns-in-4 : goal.returns-in-4
unfolding op_of operators at
returns-in-4 c = operand_plain 4 tree.Bvneg c.in-4.is (λ funs. refl) refl

pub returns-in-5 : goal.returns-in-5
unfolding op_of operators at
returns-in-5 c = operand_plain 5 tree.Bvnego c.in-5.is (λ funs. refl) refl

pub returns-in-6 : goal.returns-in-6
unfolding op_of operators at
returns-in-6 c = operand_plain 6 tree.Bvsaddo c.in-6.is (λ funs. refl) refl

pub returns-in-7 : goal.returns-in-7
unfolding op_of operators at
returns-in-7 c = operand_plain 7 tree.Bvsdiv c.in-7.is (λ funs. refl) refl

pub returns-in-8 : goal.returns-in-8
unfolding op_of operators at
returns-in-8 c = operand_plain 8 tree.Bvshl c.in-8.is (λ funs. refl) refl

pub returns-in-9 : goal.returns-in-9
unfolding op_of operators at
returns-in-9 c = operand_plain 9 tree.Bvsle c.in-9.is (λ funs. refl) refl

pub returns-in_default : goal.returns-in_default
unfolding op_of operators at
returns-in_default c = operand_plain 10 tree.Bvslt (past_last 0 10 _ zero-le c.requires search) (λ funs. refl) refl
