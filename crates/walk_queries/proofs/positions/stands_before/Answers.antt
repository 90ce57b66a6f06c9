-- `walk_queries::positions::stands_before` meets its contract: the order of slices is that of texts.
-- Assumes nothing.
use mathlib.Core.Path.{ap, ◌∙◌}
use Rattle.script_spec.specs.Base.{before}
use Rattle.check_rules.proofs.Texts.{before_is}
use Rattle.walk_queries.proofs.positions.stands_before.Goals as goal

pub returns : goal.returns
returns c = c.lt.ensures ∙ before_is _ _ ∙ ap (before _) c.text_at.ensures
