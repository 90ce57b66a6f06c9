-- `write_bytes::writer::Writer::finish` meets its contract: the place decides, and zeros stand past it or everywhere.
-- Assumes nothing.
use mathlib.Core.Path.{refl}
use native.Mathlib.Omega.{arith}
use Rattle.refusal.specs.Numbers.{number}
use Rattle.write_bytes.specs.Writing.{answer}
use Rattle.write_bytes.proofs.Laws.{leaves_length, leaves_no_room}
use Rattle.write_bytes.proofs.writer.Writer.finish.Goals as goal

pub returns-then-self : goal.returns-then-self
unfolding answer number
returns-then-self c = record { same = refl; leaves = leaves_no_room _ _ _ c.if-self.true c.clear.ensures; small = omega arith }

pub returns : goal.returns
unfolding answer
returns c = record { same = refl; leaves = leaves_length _ _ _ c.if-self.false c.clear-2.ensures; small = omega arith }
