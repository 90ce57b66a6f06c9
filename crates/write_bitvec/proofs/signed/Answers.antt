-- `write_bitvec::signed` meets its contract: 128 bits hold a number of 64, which two's complement then keeps.
-- Assumes nothing.
use mathlib.Core.Path.{ap, ◌∙◌}
use mir.Syntax.{w128}
use mir.Val.{of_z}
use mir.Facts.{to_z-of_z}
use Rattle.write_bitvec.proofs.TwosComplement.{signed_value}
use Rattle.write_bitvec.proofs.signed.Goals as goal

pub returns : goal.returns
returns c = c.cast_unsigned.ensures ∙ ap (of_z w128) (to_z-of_z {w = w128} (record { sfits = c.from.type_inv }) ∙ c.from.ensures ∙ to_z-of_z c.ranges.v) ∙ signed_value _ c.ranges.v
