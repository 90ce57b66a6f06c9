-- `write_pattern::put_element` meets its contract: the wildcard, or three writes in a row.
-- Assumes nothing.
use Rattle.script_spec.specs.Base.{bytes}
use Rattle.write_bytes.proofs.Laws.{◌then◌, says}
use Rattle.write_pattern.proofs.Laws.{element_wildcard, element_point}
use Rattle.write_pattern.proofs.put_element.Goals as goal

pub returns-then-c-eq-WILDCARD : goal.returns-then-c-eq-WILDCARD
unfolding bytes
returns-then-c-eq-WILDCARD c = says (element_wildcard _ c.if-c-eq-WILDCARD.true) c.put.ensures

pub returns : goal.returns
unfolding bytes
returns c = says (element_point _ c.if-c-eq-WILDCARD.false) (c.put-2.ensures then c.put_escape.ensures then c.put-3.ensures)
