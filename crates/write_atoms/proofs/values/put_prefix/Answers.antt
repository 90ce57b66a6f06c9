-- `write_atoms::values::put_prefix` meets its contract.
-- Assumes nothing.
use Rattle.script_spec.specs.Base.{bytes}
use Rattle.write_bytes.proofs.Laws.{◌then◌, says}
use Rattle.read_field.specs.Takes.{prefix_number}
use Rattle.write_atoms.proofs.ValueLaws.{prefix_some}
use Rattle.write_atoms.proofs.values.put_prefix.Goals as goal

pub returns-in-None : goal.returns-in-None
unfolding prefix_number
returns-in-None c = says (rw c.in-None.is) c.put_absent.ensures

pub returns-then-p-eq255 : goal.returns-then-p-eq255
unfolding prefix_number
returns-then-p-eq255 c = says (rw (c.in-Some.is, c.if-p-eq255.true)) c.put_absent-then-p-eq255.ensures

pub returns-else-p-eq255 : goal.returns-else-p-eq255
unfolding bytes prefix_number
returns-else-p-eq255 c = says (rw (c.in-Some.is, c.from.ensures) (prefix_some _ _ c.if-p-eq255.false)) (c.put.ensures then c.put_bitvec.ensures then c.put_byte.ensures)
