-- The value's bytes, and the test of their number.
-- Assumes nothing.
use Rattle.script_spec.specs.Fields.{number as number_field}
use Rattle.refusal.specs.declared.Refusal.TheVariants.{OutOfRange}
use Rattle.refusal.specs.Numbers.{number}
use Rattle.read_field.proofs.Laws.{handed_on, takes_next, refuses_next, refuses_stop, skims, skims_not, takes_pure, takes_ensured, takes_refused}
use Rattle.read_record.specs.Fields.{value_below}
use Rattle.read_record.proofs.Values.{fits_part}
use Rattle.read_record.proofs.body.below.Goals as goal

pub returns-in_err-s : goal.returns-in_err-s
unfolding value_below number_field
returns-in_err-s c = rw (handed_on _ c.from_residual.ensures.1) (refuses_stop _ (refuses_stop _ c.in_err-s.ensures))

pub returns-then-not-fits : goal.returns-then-not-fits
unfolding value_below number_field number
returns-then-not-fits c = refuses_next _ (takes_next _ c.in_ok-s.ensures (takes_pure _)) (skims_not (takes_refused OutOfRange _ _ (fits_part _ c.in_ok-s.ensures c.low_first.ensures c.fits.ensures c.if-not-fits.true)))

pub returns : goal.returns
unfolding value_below number_field
returns c = takes_next _ (takes_next _ c.in_ok-s.ensures (takes_pure _)) (skims (takes_ensured _ _ _ (fits_part _ c.in_ok-s.ensures c.low_first.ensures c.fits.ensures c.if-not-fits.false)))
