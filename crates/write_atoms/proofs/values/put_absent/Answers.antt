-- `write_atoms::values::put_absent` meets its contract.
-- Assumes nothing.
use Rattle.script_spec.specs.Base.{bytes}
use Rattle.write_bytes.proofs.Laws.{◌then◌, says}
use Rattle.write_atoms.proofs.ValueLaws.{prefix_none}
use Rattle.write_atoms.proofs.values.put_absent.Goals as goal

pub returns : goal.returns
unfolding bytes
returns c = says (prefix_none _) (c.put.ensures then c.put_bitvec_sort.ensures then c.put-2.ensures)
