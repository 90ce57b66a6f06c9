-- `write_terms::values::put_constant` meets its contract.
-- Assumes nothing.
use Rattle.script_spec.specs.Base.{bytes}
use Rattle.write_terms.proofs.ValueLaws.{spells_constant}
use Rattle.write_terms.proofs.values.put_constant.Goals as goal

pub returns : goal.returns
unfolding bytes
returns c = spells_constant c.put.ensures c.put-2.ensures c.put_byte.ensures c.put_term_sort.ensures c.put_byte-2.ensures
