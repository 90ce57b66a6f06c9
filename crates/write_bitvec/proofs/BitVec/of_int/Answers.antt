-- `write_bitvec::BitVec::of_int` meets its contract: the last bits of two's complement in 128 bits.
-- Assumes nothing.
use mathlib.Core.Path.{sym, ap, ◌∙◌}
use mir.Facts.{to_z-of_z}
use Rattle.refusal.specs.Numbers.{number}
use Rattle.write_bitvec.specs.Value.{twos_complement}
use Rattle.write_bitvec.specs.Vector.{said, of_int}
use Rattle.write_bitvec.proofs.Vectors.{vector_if_no, vector_if_yes, of_int_value}
use Rattle.write_bitvec.proofs.BitVec.of_int.Goals as goal

pub returns-then-not-is_width : goal.returns-then-not-is_width
unfolding said number of_int
returns-then-not-is_width c = vector_if_no _ _ _ (sym c.is_width.ensures ∙ c.if-not-is_width.true)

pub returns : goal.returns
unfolding said of_int
returns c =
    let w = sym c.is_width.ensures ∙ c.if-not-is_width.false in
    vector_if_yes _ _ _ _ w (of_int_value _ _ _ _ w (c.signed.ensures ∙ ap (twos_complement 128) (to_z-of_z c.ranges.v)) c.wrap-value.ensures)
