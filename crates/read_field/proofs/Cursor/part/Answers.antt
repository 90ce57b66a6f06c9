-- The bytes of the body, where so many are left.
-- Assumes nothing.
use native.Mathlib.Omega.{arith}
use Rattle.refusal.specs.Numbers.{number}
use Rattle.read_field.proofs.Laws.{part_short, reads_part, takes}
use Rattle.read_field.proofs.Cursor.part.Goals as goal

pub returns-then-left-n : goal.returns-then-left-n
unfolding number
returns-then-left-n c = record { reads = part_short _ _ _ (omega arith) }

pub returns : goal.returns
returns c = let m = c.moved.ensures in takes m.0 (rw (c.part_of.ensures, m.1) (reads_part _ _ _ (omega arith)))
