-- The code is the byte at the cursor, and then comes the operand.
-- Assumes nothing.
use mathlib.Core.Path.{refl}
use native.Mathlib.Omega.{arith}
use Rattle.script_spec.specs.Fields.{operator, coded}
use Rattle.refusal.specs.Numbers.{number}
use Rattle.read_field.specs.Reads.{chosen}
use Rattle.read_field.proofs.Laws.{takes, refuses_stop, reads_byte, byte_short}
use Rattle.read_operator.proofs.Again.{by_any, by_next}
use Rattle.read_operator.proofs.coded.Goals as goal

pub returns-then-left-lt1 : goal.returns-then-left-lt1
unfolding operator coded number
returns-then-left-lt1 g c = by_any _ _ (refuses_stop _ (record { reads = byte_short _ _ (omega arith) }))

pub returns : goal.returns
unfolding operator coded chosen
returns g c = by_next _ _ _ (takes refl (reads_byte _ _ (omega arith))) c.operand.ensures
