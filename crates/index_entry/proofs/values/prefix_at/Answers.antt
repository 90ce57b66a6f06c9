-- `index_entry::values::prefix_at` meets its contract: 255 for none.
-- Assumes nothing.
use mathlib.Core.Path.{sym, ◌∙◌}
use native.Mathlib.Omega.{arith}
use Rattle.read_field.specs.Takes.{prefix_number, IsPrefix}
use Rattle.index_entry.proofs.values.prefix_at.Goals as goal

pub returns-in-255-clause-is : goal.returns-in-255-clause-is
unfolding prefix_number
returns-in-255-clause-is c = sym c.in-255.is ∙ c.byte_at.ensures

pub returns-in_default-clause-is : goal.returns-in_default-clause-is
unfolding prefix_number
returns-in_default-clause-is c = c.from.ensures ∙ c.byte_at.ensures

pub returns-in-255-clause-given : goal.returns-in-255-clause-given
unfolding IsPrefix
returns-in-255-clause-given c = tt

pub returns-in_default-clause-given : goal.returns-in_default-clause-given
unfolding IsPrefix
returns-in_default-clause-given c = λ e. omega arith
