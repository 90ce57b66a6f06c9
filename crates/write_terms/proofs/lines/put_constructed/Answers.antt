-- `write_terms::lines::put_constructed` meets its contract.
-- Assumes nothing.
use Rattle.script_spec.specs.Base.{bytes}
use Rattle.write_terms.proofs.BodyLaws.{spells_constructed}
use Rattle.write_terms.proofs.lines.put_constructed.Goals as goal

pub returns : goal.returns
unfolding bytes
returns c = spells_constructed c.args.id.now c.put_byte.ensures c.put_sort.ensures c.put_byte-2.ensures c.put_literal.ensures c.put_byte-3.ensures
