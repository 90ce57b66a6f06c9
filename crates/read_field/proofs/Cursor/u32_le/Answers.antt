-- Four bytes of the body, where so many are left.
-- Assumes nothing.
use native.Mathlib.Omega.{arith}
use Rattle.refusal.specs.Numbers.{number}
use Rattle.read_field.proofs.Laws.{u32_short, reads_u32, takes}
use Rattle.read_field.proofs.Cursor.u32_le.Goals as goal

pub returns-then-left-lt4 : goal.returns-then-left-lt4
unfolding number
returns-then-left-lt4 c = record { reads = u32_short _ _ (omega arith) }

pub returns : goal.returns
returns c = let m = c.moved.ensures in takes m.0 (rw m.1 (reads_u32 _ _ (omega arith) c.word-n.ensures))
