-- `write_bitvec::fits` meets its contract: by a power that is whole, or since every value is below the power.
-- Assumes nothing.
use mathlib.Core.Path.{sym, ap, ◌∙◌}
use borrow.Author.Tests.{lt-ltb}
use lib.Dec.{ltb}
use Rattle.write_bitvec.proofs.Powers.{power_whole, fits_past}
use Rattle.write_bitvec.proofs.fits.Goals as goal

pub returns-then-width-lt128 : goal.returns-then-width-lt128
returns-then-width-lt128 c = ap (ltb c.args.value) (c.power.ensures ∙ power_whole _ c.if-width-lt128.true)

pub returns : goal.returns
returns c = sym (lt-ltb _ _ (fits_past _ _ c.if-width-lt128.false c.ranges.value.fits))
