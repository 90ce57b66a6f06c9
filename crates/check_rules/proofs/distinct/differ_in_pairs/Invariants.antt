-- What the references that are left decide, all of them decide.
-- Assumes nothing.
use Prim.Native.Nat.{◌-◌}
use Rattle.script_spec.specs.Fields.{u32}
use Rattle.check_rules.specs.Tests.{different_terms}
use Rattle.check_rules.proofs.Decided.{Going}
use Rattle.check_rules.proofs.distinct.differ_in_pairs.Given as goal

abbrev pub invariant-loop-i : goal.invariant-loop-i
invariant-loop-i l = Going u32 (different_terms l.records.work.now l.records.sizes.rows) l.rest l.count (different_terms l.records.work.now l.records.sizes.rows) l.c (l.count - l.i)
