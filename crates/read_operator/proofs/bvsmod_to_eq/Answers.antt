-- Each code by its arm; the last arm has the code that is left.
-- Assumes nothing.
use mathlib.Core.Path.{refl}
use Rattle.script_spec.specs.Base.{at}
use Rattle.script_spec.specs.Fields.{operators}
use Rattle.script_spec.specs.Tree as tree
use Rattle.read_operator.specs.Operators.{op_of}
use Rattle.read_operator.proofs.Laws.{operand_plain, past_last}
use Rattle.read_operator.proofs.bvsmod_to_eq.Goals as goal

pub returns-in-11 : goal.returns-in-11
unfolding op_of operators at
returns-in-11 c = operand_plain 11 tree.Bvsmod c.in-11.is (λ funs. refl) refl

pub returns-in-12 : goal.returns-in-12
unfolding op_of operators at
returns-in-12 c = operand_plain 12 tree.Bvsmulo c.in-12.is (λ funs. refl) refl

pub returns-in-13 : goal.returns-in-13
unfolding op_of operators at
returns-in-13 c = operand_plain 13 tree.Bvsrem c.in-13.is (λ funs. refl) refl

pub returns-in-14 : goal.returns-in-14
unfolding op_of operators at
returns-in-14 c = operand_plain 14 tree.Bvssubo c.in-14.is (λ funs. refl) refl

pub returns-in-15 : goal.returns-in-15
unfolding op_of operators at
returns-in-15 c = operand_plain 15 tree.Bvsub c.in-15.is (λ funs. refl) refl

pub returns-in-16 : goal.returns-in-16
unfolding op_of operators at
returns-in-16 c = operand_plain 16 tree.Bvudiv c.in-16.is (λ funs. refl) refl

pub returns-in-17 : goal.returns-in-17
unfolding op_of operators at
returns-in-17 c = operand_plain 17 tree.Bvule c.in-17.is (λ funs. refl) refl

pub returns-in-18 : goal.returns-in-18
unfolding op_of operators at
returns-in-18 c = operand_plain 18 tree.Bvult c.in-18.is (λ funs. refl) refl

pub returns-in-19 : goal.returns-in-19
unfolding op_of operators at
returns-in-19 c = operand_plain 19 tree.Bvurem c.in-19.is (λ funs. refl) refl

pub returns-in_default : goal.returns-in_default
unfolding op_of operators at
returns-in_default c = operand_plain 20 tree.Eq (past_last 11 9 _ c.requires.0 c.requires.1 search) (λ funs. refl) refl
