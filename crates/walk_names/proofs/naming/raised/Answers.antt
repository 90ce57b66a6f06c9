-- `walk_names::naming::raised` meets its contract.
-- Assumes nothing.
use mathlib.Core.Path.{◌∙◌}
use Rattle.walk_names.proofs.Names.{raised_said}
use Rattle.walk_names.proofs.naming.raised.Goals as goal

pub returns : goal.returns
returns c = c.unwrap_or.ensures ∙ raised_said _ _ c.checked_add.ensures
