-- `write_terms::definitions::DefinitionLine::write` meets its contract: head, body and end.
-- Assumes nothing.
use Rattle.script_spec.specs.Base.{bytes}
use Rattle.write_terms.proofs.DefinitionLaws.{defined}
use Rattle.write_terms.proofs.definitions.DefinitionLine.write.Goals as goal

pub returns : goal.returns
unfolding bytes
returns c = defined c.put_head.ensures c.put_body.ensures c.put.ensures
