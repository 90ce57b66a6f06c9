-- The reference, and its entry.
-- Assumes nothing.
use mathlib.Core.Path.{ap, ◌∙◌}
use Rattle.index.specs.Cells.{cell, term_first}
use Rattle.check_rules.specs.Repeats.{first_at}
use Rattle.check_rules.proofs.repeats.first_at.Goals as goal

pub returns : goal.returns
unfolding first_at
returns c = c.get.ensures ∙ ap (cell _ _ term_first) c.ref_at.ensures
