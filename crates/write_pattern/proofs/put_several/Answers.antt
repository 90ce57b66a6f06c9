-- `write_pattern::put_several` meets its contract: six writes in a row.
-- Assumes nothing.
use Rattle.script_spec.specs.Base.{bytes, collect}
use Rattle.write_bytes.proofs.Laws.{◌then◌}
use Rattle.write_pattern.specs.Elements.{spaced_element, several}
use Rattle.write_pattern.proofs.put_several.Goals as goal

pub returns : goal.returns
unfolding several collect spaced_element bytes
returns c = c.put.ensures then c.put_element.ensures then c.put_byte.ensures then (c.put_element-2.ensures then c.put_elements.ensures) then c.put_byte-2.ensures
