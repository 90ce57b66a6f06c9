-- Each code by the table of values.
-- Assumes nothing.
use Rattle.refusal.specs.Numbers.{number}
use Rattle.read_field.proofs.Coded.{chosen_refused}
use Rattle.read_field.proofs.Laws.{handed_on, skims, skims_not}
use Rattle.read_record.specs.Fields.{values}
use Rattle.read_record.proofs.Values.{skims_v4, skims_v6, signed_taken, signed_refused}
use Rattle.read_field.specs.Takes.{moved_of}
use Rattle.read_record.proofs.body.coded_value.Goals as goal

pub returns-in_err-part-in-2-to-4 : goal.returns-in_err-part-in-2-to-4
returns-in_err-part-in-2-to-4 c = rw (handed_on _ c.from_residual.ensures.1) (signed_refused c.args.code (search) (search) (skims_not c.in_err-part-in-2-to-4.ensures))

pub returns-in-0 : goal.returns-in-0
returns-in-0 c = skims_v4 _ (moved_of c.address.result) c.in-0.is c.address.ensures

pub returns-in-1 : goal.returns-in-1
returns-in-1 c = skims_v6 _ (moved_of c.address-in-1.result) c.in-1.is c.address-in-1.ensures

pub returns-in_ok-part-in-2-to-4 : goal.returns-in_ok-part-in-2-to-4
returns-in_ok-part-in-2-to-4 c = signed_taken c.args.code (search) (search) (skims c.in_ok-part-in-2-to-4.ensures)

pub returns-in_default : goal.returns-in_default
unfolding values number
returns-in_default c = skims_not (record { reads = chosen_refused values c.args.code search })
