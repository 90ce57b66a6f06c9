-- `write_atoms::values::put_address` meets its contract.
-- Assumes nothing.
use Rattle.script_spec.specs.Base.{bytes}
use Rattle.write_bytes.proofs.Laws.{◌then◌}
use Rattle.write_atoms.proofs.values.put_address.Goals as goal

pub returns : goal.returns
unfolding bytes
returns c = c.put.ensures then c.put_bitvec.ensures then c.put_byte.ensures then c.put_prefix.ensures then c.put_byte-2.ensures
