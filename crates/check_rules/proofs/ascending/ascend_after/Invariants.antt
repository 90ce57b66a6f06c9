-- What the texts that are left decide, all of them decide from the first on.
-- Assumes nothing.
use mathlib.Core.Bool.{not}
use lib.Dec.{eqb}
use Prim.Native.Nat.{◌-◌}
use Rattle.check_rules.specs.Tests.{item_text, ascending_after}
use Rattle.check_rules.proofs.Decided.{Going}
use Rattle.check_rules.proofs.ascending.ascend_after.Given as goal

abbrev pub invariant-loop : goal.invariant-loop
invariant-loop g l = Going (item_text (not (eqb g.row.NAMED 0))) (ascending_after l.first) l.rest l.count (ascending_after l.previous) l.c (l.count - l.counter)
