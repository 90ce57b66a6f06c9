-- By the number of bytes to come: each way through the function is a law of `Steps`.
-- Assumes nothing.
use mathlib.Core.Path.{refl}
use native.Mathlib.Omega.{arith}
use Rattle.read_utf8.proofs.Steps.{follow_done, follow_short, follow_outside, follow_more, small_shift, small_next}
use Rattle.read_utf8.proofs.Decode.{between_either, between_in}
use Rattle.read_utf8.proofs.CodePoints.+continued.Goals as goal

pub returns-then-more-eq0 : goal.returns-then-more-eq0
returns-then-more-eq0 t c = follow_done _ _ _ _ _ c.if-more-eq0.true

pub returns-then-self : goal.returns-then-self
returns-then-self t c = follow_short _ _ _ _ _ c.if-more-eq0.false c.if-self.true

pub returns-then-b-low : goal.returns-then-b-low
returns-then-b-low t c = follow_outside _ _ _ _ _ _ c.if-more-eq0.false c.if-self.false c.from-b.ensures (between_either _ _ _ c.then-b-low.either)

pub overflow_mul-value : goal.overflow_mul-value
overflow_mul-value t c = omega (arith, small_shift _ _ _ _ c.if-more-eq0.false c.requires)

pub overflow_add-value : goal.overflow_add-value
overflow_add-value t c = omega (arith, small_shift _ _ _ _ c.if-more-eq0.false c.requires)

pub continued-requires : goal.continued-requires
continued-requires t c = (omega (arith, c.if-more-eq0.false), small_next _ _ _ _ _ c.if-more-eq0.false c.requires c.if-b-low.false c.if-high-b.false)

pub returns : goal.returns
returns t c = follow_more _ _ _ _ _ _ c.if-more-eq0.false c.if-self.false c.from-b.ensures (between_in _ _ _ c.if-b-low.false c.if-high-b.false) refl refl c.continued.ensures
