-- `write_bitvec::BitVec::int_min` meets its contract: the power below the width fits 128 bits.
-- Assumes nothing.
use mathlib.Core.Path.{sym, ◌∙◌}
use Rattle.refusal.specs.Numbers.{number}
use Rattle.write_bitvec.specs.Vector.{said, int_min}
use Rattle.write_bitvec.proofs.Vectors.{is_width_range, vector_if_no, vector_if_yes, int_min_value}
use Rattle.write_bitvec.proofs.BitVec.int_min.Goals as goal

pub returns-then-not-is_width : goal.returns-then-not-is_width
unfolding said number int_min
returns-then-not-is_width c = vector_if_no _ _ _ (sym c.is_width.ensures ∙ c.if-not-is_width.true)

pub overflow_sub-width : goal.overflow_sub-width
overflow_sub-width c = (is_width_range _ (sym c.is_width.ensures ∙ c.if-not-is_width.false)).0

pub returns : goal.returns
unfolding said int_min
returns c = let w = sym c.is_width.ensures ∙ c.if-not-is_width.false in vector_if_yes _ _ _ _ w (int_min_value _ _ w c.power-value.ensures)
