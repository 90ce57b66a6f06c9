-- `vectors::main`: fewer files differ, and fewer are compared, than there are pairs of arguments.
-- Assumes nothing.
use Rattle.std.specs.Prelude.{◌≤◌}
use Rattle.vectors.proofs.main.Given as goal

abbrev pub invariant-loop-pair : goal.invariant-loop-pair
invariant-loop-pair l = (l.compared ≤ l.pair) × (l.differ ≤ l.pair)
