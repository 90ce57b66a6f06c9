-- `index_entry::parents::arguments` meets its contract: by whether the operator has an operand.
-- Assumes nothing.
use mathlib.Core.Path.{refl, sym, ap, ◌∙◌}
use Rattle.std.specs.Option.{is_some}
use Rattle.index_entry.proofs.ChildEntries.{children_bare, children_app, no_arguments}
use Rattle.index_entry.proofs.parents.arguments.Goals as goal

pub returns-then-is_none : goal.returns-then-is_none
returns-then-is_none c = children_bare c.byte_at-code.ensures (ap is_some (sym c.operand_of.ensures) ∙ c.if-is_none.ensures) c.listed.ensures

pub returns-in-Err : goal.returns-in-Err
returns-in-Err c = no_arguments c.operator_again.result refl c.operator_again.ensures c.in-Err.is

pub returns-in-Ok : goal.returns-in-Ok
returns-in-Ok c = children_app c.operator_again.result refl c.operator_again.ensures c.in-Ok.is c.listed-in-Ok.ensures
