-- `write_atoms::values::put_number` meets its contract.
-- Assumes nothing.
use mathlib.Core.Path.{ap}
use Rattle.script_spec.specs.Base.{bytes}
use Rattle.script_spec.specs.Spelling.{bit_vec}
use Rattle.write_bytes.proofs.Laws.{◌then◌, says}
use Rattle.write_atoms.proofs.values.put_number.Goals as goal

pub returns : goal.returns
unfolding bytes
returns c = c.put.ensures then says (ap (bit_vec 64) c.from.ensures) c.put_bitvec.ensures then c.put_byte.ensures
