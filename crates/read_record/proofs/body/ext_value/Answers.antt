-- The code, and then what it says.
-- Assumes nothing.
use Rattle.script_spec.specs.Fields.{value, coded}
use Rattle.read_field.proofs.Laws.{handed_on, refuses_stop, skims_not}
use Rattle.read_field.specs.Reads.{chosen}
use Rattle.read_record.specs.Fields.{values}
use Rattle.read_record.proofs.Values.{skims_next}
use Rattle.read_field.specs.Takes.{moved_of}
use Rattle.read_record.proofs.body.ext_value.Goals as goal

pub returns-in_err-code : goal.returns-in_err-code
unfolding value coded
returns-in_err-code c = rw (handed_on _ c.from_residual.ensures.1) (skims_not (refuses_stop _ c.in_err-code.ensures))

pub returns : goal.returns
unfolding value coded chosen values
returns c = skims_next _ (moved_of c.coded_value.result) c.in_ok-code.ensures c.coded_value.ensures
