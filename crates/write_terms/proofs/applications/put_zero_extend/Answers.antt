-- `write_terms::applications::put_zero_extend` meets its contract.
-- Assumes nothing.
use Rattle.script_spec.specs.Base.{bytes}
use Rattle.write_bytes.proofs.Laws.{◌then◌, says}
use Rattle.write_terms.proofs.HeadLaws.{zero_extend_pieces}
use Rattle.write_terms.proofs.applications.put_zero_extend.Goals as goal

pub returns : goal.returns
unfolding bytes
returns c = says (rw (← c.from.ensures) (zero_extend_pieces _)) (c.put.ensures then c.put_decimal.ensures then c.put_byte.ensures)
