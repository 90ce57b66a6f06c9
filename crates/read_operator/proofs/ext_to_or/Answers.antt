-- Each code by its arm; the last arm has the code that is left.
-- Assumes nothing.
use mathlib.Core.Path.{refl}
use Rattle.script_spec.specs.Base.{at}
use Rattle.script_spec.specs.Fields.{operators, plain}
use Rattle.read_field.proofs.Laws.{takes_pure}
use Rattle.read_operator.specs.Operators.{op_of, ext_operator}
use Rattle.read_operator.proofs.Laws.{takes_chosen, chosen_by, past_last}
use Rattle.read_operator.proofs.ext_to_or.Goals as goal

pub returns-in-21 : goal.returns-in-21
unfolding op_of operators at plain ext_operator
returns-in-21 c = chosen_by _ 21 c.in-21.is refl _ _ c.ext.ensures

pub returns-in-22 : goal.returns-in-22
unfolding op_of operators at plain ext_operator
returns-in-22 c = takes_chosen _ 22 c.in-22.is refl (takes_pure _)

pub returns-in-23 : goal.returns-in-23
unfolding op_of operators at plain ext_operator
returns-in-23 c = takes_chosen _ 23 c.in-23.is refl (takes_pure _)

pub returns-in-24 : goal.returns-in-24
unfolding op_of operators at plain ext_operator
returns-in-24 c = takes_chosen _ 24 c.in-24.is refl (takes_pure _)

pub returns-in_default : goal.returns-in_default
unfolding op_of operators at plain ext_operator
returns-in_default c = takes_chosen _ 25 (past_last 21 4 _ c.requires.0 c.requires.1 search) refl (takes_pure _)
