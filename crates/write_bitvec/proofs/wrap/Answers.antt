-- `write_bitvec::wrap` meets its contract: by a power that is whole, or since the value is below the power.
-- Assumes nothing.
use mathlib.Core.Path.{sym, ap, ◌∙◌}
use Prim.Native.Nat.{◌%◌}
use native.Mathlib.Nat.{mod-eq_of_lt}
use lib.Pow.{pow_pos}
use Rattle.write_bitvec.proofs.Powers.{power_whole, fits_past}
use Rattle.write_bitvec.proofs.wrap.Goals as goal

pub nonzero_rem-result : goal.nonzero_rem-result
nonzero_rem-result c = rw (c.power.ensures ∙ power_whole _ c.if-width-lt128.true) (pow_pos c.args.width)

pub returns-then-width-lt128 : goal.returns-then-width-lt128
returns-then-width-lt128 c = ap (λ p. c.args.value % p) (c.power.ensures ∙ power_whole _ c.if-width-lt128.true)

pub returns : goal.returns
returns c = sym (mod-eq_of_lt (fits_past _ _ c.if-width-lt128.false c.ranges.value.fits))
