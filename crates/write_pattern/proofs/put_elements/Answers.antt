-- `write_pattern::put_elements` meets its contract: each turn writes one of the elements that are to be written, as long as the place is
-- not past the limit.
-- Assumes nothing.
use Rattle.write_bytes.proofs.Laws.{◌then◌}
use Rattle.write_bytes.proofs.Loop.{along_step, along_end, along_past}
use Rattle.write_pattern.proofs.Laws.{collect_next, collect_none}
use Rattle.write_pattern.proofs.put_elements.Goals as goal

pub loop-c-preserved : goal.loop-c-preserved
loop-c-preserved c = along_step c.loop-c.invariant (collect_next _ _ _ c.in-Some.ensures.steps) (c.put_byte.ensures then c.put_element.ensures)

pub returns-then-is_past : goal.returns-then-is_past
returns-then-is_past c = along_past c.loop-c.invariant c.is_past.ensures c.if-is_past.true

pub returns : goal.returns
returns c = along_end c.loop-c.invariant (collect_none _ c.in-None.ensures.steps.0)
