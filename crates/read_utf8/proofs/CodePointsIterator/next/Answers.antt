-- The end, a byte below 128, or a first byte of several.
-- Assumes nothing.
use mathlib.Core.Path.{refl}
use Rattle.read_utf8.proofs.Steps.{first_end, first_ascii, first_led}
use Rattle.read_utf8.proofs.CodePointsIterator.next.Goals as goal

pub returns-then-self-clause-steps : goal.returns-then-self-clause-steps
returns-then-self-clause-steps c = first_end _ c.if-self.true

pub returns-then-a-lt128-clause-steps : goal.returns-then-a-lt128-clause-steps
returns-then-a-lt128-clause-steps c = first_ascii _ c.if-self.false c.from-a.ensures c.if-a-lt128.true refl refl

pub returns-clause-steps : goal.returns-clause-steps
returns-clause-steps c = first_led _ _ c.if-self.false c.from-a.ensures c.if-a-lt128.false refl refl c.led_by.ensures
