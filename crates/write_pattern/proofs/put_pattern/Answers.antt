-- `write_pattern::put_pattern` meets its contract: no element, one, or several.
-- Assumes nothing.
use Rattle.script_spec.specs.Base.{bytes}
use Rattle.write_bytes.proofs.Laws.{says}
use Rattle.write_pattern.proofs.Laws.{pattern_none, pattern_one, pattern_many}
use Rattle.write_pattern.proofs.put_pattern.Goals as goal

pub returns-in_default : goal.returns-in_default
unfolding bytes
returns-in_default c = says (pattern_none _ c.in_default.ensures.steps.0) c.put.ensures

pub returns-in_default-next : goal.returns-in_default-next
returns-in_default-next c = says (pattern_one _ _ _ c.in-Some.ensures.steps c.in_default-next.ensures.steps.0) c.put_element.ensures

pub returns : goal.returns
returns c = says (pattern_many _ _ _ _ _ c.in-Some.ensures.steps c.in-Some-next.ensures.steps) c.put_several.ensures
