-- `index_entry::parents::app_of` meets its contract: the operator ends where the arguments begin.
-- Assumes nothing.
use mathlib.Core.Path.{refl}
use Rattle.index_entry.proofs.ParentEntries.{term_app, no_app}
use Rattle.index_entry.proofs.parents.app_of.Goals as goal

pub returns-in-Err-clause-is : goal.returns-in-Err-clause-is
returns-in-Err-clause-is c = no_app c.operator_again.result refl c.operator_again.ensures c.in-Err.is

pub returns-in-Ok-clause-is : goal.returns-in-Ok-clause-is
returns-in-Ok-clause-is c = term_app c.operator_again.result refl c.operator_again.ensures c.in-Ok.is c.number_at-t.ensures c.listed.ensures
