-- Each code by its arm; past the last code there is no operator.
-- Assumes nothing.
use mathlib.Core.Path.{refl}
use Rattle.script_spec.specs.Base.{at}
use Rattle.script_spec.specs.Fields.{operators, plain}
use Rattle.refusal.specs.Numbers.{number}
use Rattle.read_field.proofs.Coded.{chosen_refused}
use Rattle.read_field.proofs.Laws.{takes_pure}
use Rattle.read_operator.specs.Operators.{op_of, record_get_operand, string_like, uninterpreted, zero_extend}
use Rattle.read_operator.proofs.Laws.{past}
use Rattle.read_operator.proofs.Again.{by_any, by_chosen}
use Rattle.read_operator.proofs.record_get_to_zero_extend.Goals as goal

pub returns-in-26 : goal.returns-in-26
unfolding op_of operators at plain record_get_operand string_like uninterpreted zero_extend
returns-in-26 g c = by_chosen _ _ _ 26 c.in-26.is refl c.record_get.ensures

pub returns-in-27 : goal.returns-in-27
unfolding op_of operators at plain record_get_operand string_like uninterpreted zero_extend
returns-in-27 g c = by_chosen _ _ _ 27 c.in-27.is refl (by_any _ _ (takes_pure _))

pub returns-in-28 : goal.returns-in-28
unfolding op_of operators at plain record_get_operand string_like uninterpreted zero_extend
returns-in-28 g c = by_chosen _ _ _ 28 c.in-28.is refl (by_any _ _ (takes_pure _))

pub returns-in-29 : goal.returns-in-29
unfolding op_of operators at plain record_get_operand string_like uninterpreted zero_extend
returns-in-29 g c = by_chosen _ _ _ 29 c.in-29.is refl (by_any _ _ (takes_pure _))

pub returns-in-30 : goal.returns-in-30
unfolding op_of operators at plain record_get_operand string_like uninterpreted zero_extend
returns-in-30 g c = by_chosen _ _ _ 30 c.in-30.is refl c.string_like.ensures

pub returns-in-31 : goal.returns-in-31
unfolding op_of operators at plain record_get_operand string_like uninterpreted zero_extend
returns-in-31 g c = by_chosen _ _ _ 31 c.in-31.is refl c.uuf.ensures

pub returns-in-32 : goal.returns-in-32
unfolding op_of operators at plain record_get_operand string_like uninterpreted zero_extend
returns-in-32 g c = by_chosen _ _ _ 32 c.in-32.is refl (by_any _ _ c.zero_extend.ensures)

pub returns-in_default : goal.returns-in_default
unfolding operators number
returns-in_default g c = by_any _ _ (record { reads = chosen_refused _ _ (past 26 7 _ c.requires search) })
