-- `index_compare::segments::Segments::operator` meets its contract: the code is the first byte.
-- Assumes nothing.
use mathlib.Core.Path.{sym, ap, ◌∙◌}
use Rattle.index_compare.proofs.Steps.{operator_with}
use Rattle.index_compare.specs.Step.{after_field, walk_ending}
use Rattle.index_compare.specs.Machine.{operand_of, coded_then, remaining, field_then}
use Rattle.index_compare.proofs.segments.Segments.operator.Goals as goal

pub returns-in-Some : goal.returns-in-Some
unfolding after_field walk_ending coded_then remaining field_then
returns-in-Some c = rw (operator_with _ _ (ap operand_of (sym c.byte_at.ensures) ∙ sym c.in-Some.ensures)) (rw c.put.ensures at c.plain.ensures)

pub returns-in-None : goal.returns-in-None
unfolding after_field walk_ending coded_then remaining field_then
returns-in-None c = rw (operator_with _ _ (ap operand_of (sym c.byte_at.ensures) ∙ sym c.in-None.ensures)) (rw c.popped.ensures at c.plain-in-None.ensures)
