-- `write_terms::values::put_some` meets its contract.
-- Assumes nothing.
use Rattle.script_spec.specs.Base.{bytes}
use Rattle.write_terms.proofs.ValueLaws.{spells_some}
use Rattle.write_terms.proofs.values.put_some.Goals as goal

pub returns : goal.returns
unfolding bytes
returns c = spells_some c.put.ensures c.put_atom.ensures c.put_byte.ensures
