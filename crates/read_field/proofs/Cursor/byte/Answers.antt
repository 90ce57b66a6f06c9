-- A byte of the body, where one is left.
-- Assumes nothing.
use native.Mathlib.Omega.{arith}
use Rattle.refusal.specs.Numbers.{number}
use Rattle.read_field.proofs.Laws.{byte_short, reads_byte, takes}
use Rattle.read_field.proofs.Cursor.byte.Goals as goal

pub returns-then-left-lt1 : goal.returns-then-left-lt1
unfolding number
returns-then-left-lt1 c = record { reads = byte_short _ _ (omega arith) }

pub returns : goal.returns
returns c = let m = c.moved.ensures in takes m.0 (rw (c.from.ensures, m.1) (reads_byte _ _ (omega arith)))
