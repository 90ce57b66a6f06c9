-- The loop over the records; its measure is what is left of the file.
-- Assumes nothing.
use Prim.Native.Nat.{◌-◌}
use lib.ListN.{length}
use Rattle.check_file.proofs.Loop.{Going}
use Rattle.check_file.proofs.enter_all.Given as goal

abbrev pub invariant-loop-at : goal.invariant-loop-at
invariant-loop-at l = Going l.fn.records l.records l.at

abbrev pub decreases-loop-at : goal.decreases-loop-at
decreases-loop-at l = length l.fn.records.file.now - l.at
