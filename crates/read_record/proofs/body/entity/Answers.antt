-- The reference, and then the mark of the type that it names.
-- Assumes nothing.
use mathlib.Core.Path.{sym, ◌∙◌}
use Rattle.refusal.specs.declared.Refusal.TheVariants.{NoSuchRecord}
use Rattle.refusal.specs.Numbers.{number}
use Rattle.read_field.proofs.Laws.{handed_on, takes_next, refuses_next, refuses_stop, skims, skims_not, takes_ensured, takes_refused}
use Rattle.read_record.specs.Fields.{entity}
use Rattle.read_record.proofs.body.entity.Goals as goal

pub returns-in_err-n : goal.returns-in_err-n
unfolding entity
returns-in_err-n c = rw (handed_on _ c.from_residual.ensures.1) (refuses_stop _ c.in_err-n.ensures)

pub returns-then-not-is_entity : goal.returns-then-not-is_entity
unfolding entity number
returns-then-not-is_entity c = refuses_next _ c.in_ok-n.ensures (skims_not (takes_refused NoSuchRecord _ _ (sym c.is_entity.ensures ∙ c.if-not-is_entity.true)))

pub returns : goal.returns
unfolding entity
returns c = takes_next _ c.in_ok-n.ensures (skims (takes_ensured _ _ _ (sym c.is_entity.ensures ∙ c.if-not-is_entity.false)))
